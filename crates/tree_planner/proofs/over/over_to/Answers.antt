use Rattle.std.proofs.Common.{arith, inl}
use Rattle.tree_planner.proofs.Room.{room_left}
use Rattle.tree_planner.proofs.over.over_to.Goals as goal

pub overflow_add-distance : goal.overflow_add-distance
overflow_add-distance c =
    let most = c.requires.leaving.at.reached in
    let far = c.requires.leaving.far in
    let limit = c.requires.searching.limit in
    let small = c.requires.ground.small in
    omega arith

pub returns-then-is_nearer-clause-searching : goal.returns-then-is_nearer-clause-searching
returns-then-is_nearer-clause-searching c =
    c.reach.ensures.kept c.args.ground.now c.requires.ground c.requires.searching
    c.rest_of-rest.ensures.rest c.requires.is_end.known (λ none. record {
      from = c.args.leaving.end;
      stands = c.requires.leaving.stands;
      is_end = c.requires.is_end;
      before = (c.requires.leaving.at.settled, inl none);
      cost =
          (let least = c.requires.ground.kept.cheapest.least c.args.leaving.split c.args.leaving.end c.args.other
          c.requires.leaving.stands c.requires.is_end in
          let far = c.requires.leaving.far in
          let spent = c.requires.leaving.spent in
          omega arith);
    })

pub reach-requires-clause-room : goal.reach-requires-clause-room
reach-requires-clause-room c =
    room_left c.args.ground.now c.args.search.now c.requires.ground c.requires.searching c.args.other.node
    c.requires.is_end.known
