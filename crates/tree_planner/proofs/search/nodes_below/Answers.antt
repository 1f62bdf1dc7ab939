use Rattle.std.proofs.Common.{◌∙◌, subst, sym, get_or, Contains}
use Rattle.std.proofs.lemmas.Bool.{false≢true}
use Rattle.std.proofs.lemmas.List.Elements.{All-contains_itself}
use Rattle.tree_planner.proofs.Covered.{inner_above, inner_known}
use Rattle.rack_tree.specs.Tree.{Tree}
use Rattle.tree_flow.specs.Nodes.{IsNode}
use Rattle.tree_planner.specs.Searching.{wave_of}
use Rattle.tree_planner.proofs.search.nodes_below.Goals as goal

pub of-requires-clause-known : goal.of-requires-clause-known
of-requires-clause-known c =
    subst (λ (t : Tree). IsNode t c.args.top) (sym c.tree.ensures.tree)
    (inner_known (wave_of c.args.ground.now).tree c.args.top (c.is_inner.ensures.0 c.if-not-is_inner.false))

pub returns-then-not-is_inner-clause-all : goal.returns-then-not-is_inner-clause-all
returns-then-not-is_inner-clause-all c = λ v hangs.
    absurd (false≢true (sym c.if-not-is_inner.true
    ∙ c.is_inner.ensures.1 (inner_above c.args.ground.now c.requires c.args.top v hangs)))

pub returns-clause-known : goal.returns-clause-known
returns-clause-known c = λ k d l.
    (let row = c.of.result.now in
    ((c.requires.children.each c.args.top (get_or row k d)).0
    (subst (λ xs. Contains xs (get_or row k d)) c.of.ensures (All-contains_itself row k d l))).known)

pub returns-clause-all : goal.returns-clause-all
returns-clause-all c = λ v hangs.
    subst (λ xs. Contains xs v) (sym c.of.ensures) ((c.requires.children.each c.args.top v).1 hangs)
