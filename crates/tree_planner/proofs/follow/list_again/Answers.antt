use Rattle.std.proofs.Common.{◌∙◌, sym, subst, arith}
use Rattle.std.proofs.lemmas.List.{get_or_default}
use Rattle.tree_flow.specs.declared.nodes.Place.TheVariants.{Waits}
use Rattle.tree_flow.specs.Nodes.{IsNode}
use Rattle.tree_planner.proofs.follow.list_again.Goals as goal

pub add-requires-clause-known : goal.add-requires-clause-known
add-requires-clause-known c =
    let places = c.args.tables.now.places.items in
    let size = c.requires.places in
    let stands = sym (c.index.ensures ∙ get_or_default places c.args.split c.index.result.now Waits (omega arith))
    ∙ c.in-Stands.is in
    subst (λ t. IsNode t c.in-Stands.end.node) (sym c.tree.ensures.tree)
    (c.requires.known c.args.split c.in-Stands.end stands)
