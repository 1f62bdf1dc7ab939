use Rattle.std.proofs.Common.{arith}
use Rattle.shortest_paths.proofs.Costs.{head_in}
use Rattle.augmenting_paths.proofs.trail.Trail.is_open.Goals as goal

pub index-requires : goal.index-requires
index-requires g c =
    let inside = head_in _ c.args.network.now.arcs c.args.arc c.all_arcs.ensures.limits.arcs_in
    c.requires.listed in
    rw (c.head.ensures, c.all_arcs.ensures.value) (omega arith)
