use Rattle.std.proofs.Common.{◌≡◌, ◌∙◌, sym, subst, arith}
use Rattle.std.specs.Prelude.{IfSome}
use Rattle.shortest_paths.specs.Search.{problem}
use Rattle.shortest_paths.proofs.Searching.{entered_inside, opened_with, sink_arc_own, few_so_far}
use Rattle.shortest_paths.proofs.Looking.{comes_of}
use Rattle.shortest_paths.proofs.search.Search.visit.Goals as goal

pub returns-then-node-query-clause-steps : goal.returns-then-node-query-clause-steps
returns-then-node-query-clause-steps g c = let few = few_so_far c.requires.state.1.now in omega arith

pub returns-in_err-open-clause-steps : goal.returns-in_err-open-clause-steps
returns-in_err-open-clause-steps g c = let few = few_so_far c.requires.state.1.now in omega arith

pub returns-in-None-clause-steps : goal.returns-in-None-clause-steps
returns-in-None-clause-steps g c = let few = few_so_far c.requires.state.1.now in omega arith

pub open-requires-clause-node : goal.open-requires-clause-node
open-requires-clause-node g c =
    let inside = entered_inside c.requires.state.1.now in
    let size = c.requires.state.1.now.reached.settled_size in
    omega arith

pub sink_arc-requires : goal.sink_arc-requires
sink_arc-requires g c =
    let inside = entered_inside c.requires.state.1.now in
    let size = c.requires.state.1.may.sized.sink_arcs in
    omega arith

pub look-requires-clause-leaves : goal.look-requires-clause-leaves
look-requires-clause-leaves g c =
    (sink_arc_own (problem c.args.meter.now.network c.args.query.now)
    c.requires.state.1.may.lists (sym c.in-Some.is ∙ c.sink_arc.ensures)).0

pub look-requires-clause-state : goal.look-requires-clause-state
look-requires-clause-state g c = (
  c.requires.state.0,
  opened_with c.requires.state.1 c.if-node-query.false c.requires.no_source
      c.in_ok-open.ensures (sym c.in-Some.is ∙ c.sink_arc.ensures),
)

pub returns-in_ok-found-in-Some-clause-goes : goal.returns-in_ok-found-in-Some-clause-goes
returns-in_ok-found-in-Some-clause-goes g c = λ rest s.
    let o = opened_with s c.if-node-query.false c.requires.no_source
    c.in_ok-open.ensures (sym c.in-Some.is ∙ c.sink_arc.ensures) in
    let after = c.in_ok-found-in-Some.ensures.goes rest o in
    let lead = (sink_arc_own (problem c.args.meter.now.network c.args.query.now)
    c.requires.state.1.may.lists (sym c.in-Some.is ∙ c.sink_arc.ensures)).1 in
    rw c.is_some.ensures (comes_of c.in_ok-found-in-Some.found
    (subst (λ v. IfSome c.in_ok-found-in-Some.found (λ w. w ≡ v)) lead c.in_ok-found-in-Some.ensures.head)
    after)

pub returns-in-None-clause-goes : goal.returns-in-None-clause-goes
returns-in-None-clause-goes g c = λ rest s.
    opened_with s c.if-node-query.false c.requires.no_source c.in_ok-open.ensures
    (sym c.in-None.is ∙ c.sink_arc.ensures)
