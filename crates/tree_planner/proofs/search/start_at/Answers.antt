use Rattle.std.proofs.Common.{arith}
use Rattle.tree_planner.proofs.Room.{room_left}
use Rattle.tree_planner.proofs.search.start_at.Goals as goal

pub returns-clause-searching : goal.returns-clause-searching
returns-clause-searching c =
    c.reach.ensures.kept c.args.ground.now c.requires.ground c.requires.searching
    c.rest_of-rest.ensures.rest c.requires.is_end.known (λ none. record {
      is_end = c.requires.is_end;
      cost = (let is = c.cost_at.ensures.cost in let least = c.requires.least.ends c.args.end c.requires.is_end in omega arith);
    })

pub reach-requires-clause-room : goal.reach-requires-clause-room
reach-requires-clause-room c =
    room_left c.args.ground.now c.args.search.now c.requires.ground c.requires.searching c.args.end.node
    c.requires.is_end.known
