use Rattle.std.proofs.Common.{arith, inl, sym, ap}
use Rattle.tree_planner.specs.Searching.{state_at}
use Rattle.tree_planner.proofs.Room.{room_left}
use Rattle.tree_planner.proofs.search.look_up.Goals as goal

pub overflow_add-distance : goal.overflow_add-distance
overflow_add-distance c =
    let most = c.requires.at.reached in
    let limit = c.requires.searching.limit in
    let small = c.requires.ground.small in
    omega arith

pub returns-then-flow_of-gt0-clause-searching : goal.returns-then-flow_of-gt0-clause-searching
returns-then-flow_of-gt0-clause-searching c =
    c.reach.ensures.kept c.args.ground.now c.requires.ground c.requires.searching
    c.rest_of-rest.ensures.rest c.above-up.ensures.known (λ none. record {
      known = c.requires.known;
      hangs = λ e.
          (let top = c.requires.ground.kept.balanced.top in
          let same = ap (state_at c.args.ground.now).flow e in
          omega arith);
      above = sym c.above-up.ensures.node;
      before = (c.requires.at.settled, inl none);
      some = omega arith;
      cost = omega arith;
    })

pub reach-requires-clause-room : goal.reach-requires-clause-room
reach-requires-clause-room c =
    room_left c.args.ground.now c.args.search.now c.requires.ground c.requires.searching c.above-up.result
    c.above-up.ensures.known
