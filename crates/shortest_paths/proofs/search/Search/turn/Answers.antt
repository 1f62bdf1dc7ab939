use Rattle.std.proofs.Common.{[], length, ap, ◌∙◌, sym, subst, arith}
use Rattle.shortest_paths.specs.Searching.{IsSearching, Tables}
use Rattle.shortest_paths.specs.Search.{problem}
use Rattle.shortest_paths.proofs.Searching.{few_so_far, popped_by, top_inside, turns}
use Rattle.shortest_paths.proofs.search.Search.turn.Goals as goal

pub next_arc-requires-clause-node : goal.next_arc-requires-clause-node
next_arc-requires-clause-node g c =
    let here = top_inside _ c.requires.state.now c.requires.top.1 in
    let inside = here.0 in
    let size = c.requires.state.now.left_size in
    omega arith

pub next_arc-requires-clause-cursor : goal.next_arc-requires-clause-cursor
next_arc-requires-clause-cursor g c = (top_inside _ c.requires.state.now c.requires.top.1).1

pub step-requires-clause-leaves : goal.step-requires-clause-leaves
step-requires-clause-leaves g c = (turns c.next_arc.new.self _ c.requires.state c.requires.top.1
    (rw c.in-Some.is at c.next_arc.ensures)).1

pub step-requires-clause-state : goal.step-requires-clause-state
step-requires-clause-state g c = (turns c.next_arc.new.self _ c.requires.state c.requires.top.1
    (rw c.in-Some.is at c.next_arc.ensures)).0

pub returns-clause-goes : goal.returns-clause-goes
returns-clause-goes g c =
    let s = c.requires.state in
    let none = rw c.in_default.is at c.next_arc.ensures in
    let stack = ap (λ (t : Tables). t.stack) none.1 in
    record {
      may = s.may;
      now = subst (λ (t : Tables). IsSearching (problem c.args.meter.now.network c.args.query.now)
          (length c.args.query.now.potentials.now) c.args.level c.args.meter.now.count [] []
          (record t { stack = c.pop.new.self.items })) (sym none.1)
          (popped_by c.requires.top.0 c.pop.new.self.items c.args.node c.pop.result
          c.requires.top.1 (sym stack ∙ c.pop.ensures.items) none.0 s.now);
    }

pub returns-clause-steps : goal.returns-clause-steps
returns-clause-steps g c = let few = few_so_far c.requires.state.now in omega arith
