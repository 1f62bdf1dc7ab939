use Rattle.std.proofs.Common.{ap, ◌∙◌, ◌++◌, ◌∷◌, [], length, map}
use Rattle.tree_planner.specs.declared.split_ends.Stored.TheVariants.{Shared}
use Rattle.tree_planner.specs.Stored.{stored_at}
use Rattle.tree_planner.proofs.Stored.{share_more}
use Rattle.tree_planner.proofs.split_ends.AllEnds.share.Goals as goal

pub returns : goal.returns
returns c =
    let old = c.self.inside in
    let groups = c.args.groups.now in
    ap (λ shared. map (stored_at shared) c.push.new.self.items) c.in_ok-extend_from_slice.ensures.items
    ∙ ap (λ each. map (stored_at (old.shared.items ++ groups)) each) (c.in_ok-push.ensures.items)
    ∙ ap (λ n. map (stored_at (old.shared.items ++ groups)) (old.each.items ++ Shared n (length groups) ∷ []))
    (c.len-from.ensures ∙ old.shared.ok.0) ∙ share_more old.shared.items groups old.each.items c.self.invariant
    ∙ ap (λ ends. ends ++ record { groups = groups; barred = [] } ∷ []) c.self.view_is
