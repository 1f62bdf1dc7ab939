use Rattle.std.proofs.Common.{◌≡◌, ◌++◌, ◌∷◌, [], ◌↔◌, ◌⊎◌, ◌∙◌, ap, sym, subst}
use Rattle.rack_tree.specs.Tree.{Tree}
use Rattle.tree_flow.specs.Nodes.{node_above, IsNode}
use Rattle.tree_planner.specs.Bars.{top_of, HasEndFor, IsTopEnd}
use Rattle.tree_planner.specs.declared.split_ends.Group.TheVariants.{Single}
use Rattle.tree_planner.proofs.Tops.{end_same, push_unbarred}
use Rattle.tree_planner.proofs.split_ends.add_single.Goals as goal

pub returns : goal.returns
returns c = λ e.
    (let wave = c.args.problem.now in
    let s = c.args.split in
    let old = c.args.groups.now.items in
    let end = c.end_above.result in
    let top = top_of wave c.args.worker c.args.level in
    let at : end ≡ top = end_same end top (c.end_above.ensures.node
    ∙ ap (λ (t : Tree). node_above t c.args.level c.args.worker) c.tree.ensures.tree) c.end_above.ensures.level in
    subst (λ xs. HasEndFor wave s xs e ↔ (HasEndFor wave s old e ⊎ IsTopEnd wave s top e))
    (sym c.in_ok-push.ensures.items)
    (subst (λ t. HasEndFor wave s (old ++ Single end ∷ []) e ↔ (HasEndFor wave s old e ⊎ IsTopEnd wave s t e)) at
    (push_unbarred wave s c.requires.bars end old
    (subst (λ t. IsNode t end.node) c.tree.ensures.tree c.end_above.ensures.known) e)))
