use Rattle.std.proofs.Common.{ap, ◌∙◌}
use Rattle.augmenting_paths.proofs.requirements.indices.Goals as goal

pub index-requires : goal.index-requires
index-requires g c =
    ap (g.L.Layout.is_member c.args.layout.now) c.node-item.is ∙ c.requires _ _ c.loop-node-test.true
