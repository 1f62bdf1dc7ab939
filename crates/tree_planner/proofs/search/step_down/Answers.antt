use Rattle.std.proofs.Common.{◌<◌, ap, arith, inl, sym, subst}
use Rattle.tree_planner.specs.Searching.{far_at, order_at, state_at}
use Rattle.tree_planner.proofs.Room.{room_left}
use Rattle.tree_planner.proofs.search.step_down.Goals as goal

pub overflow_add-distance : goal.overflow_add-distance
overflow_add-distance c =
    let most = c.requires.at.reached in
    let limit = c.requires.searching.limit in
    let small = c.requires.ground.small in
    omega arith

pub returns-then-flow_of-slots_at-clause-searching : goal.returns-then-flow_of-slots_at-clause-searching
returns-then-flow_of-slots_at-clause-searching c =
    let g = c.args.ground.now in
    let search = c.args.search.now in
    let up = c.requires.below.above in
    let far = ap (λ v. far_at search v) up in
    let depth = ap (state_at g).depth up in
    c.reach.ensures.kept g c.requires.ground c.requires.searching
    c.rest_of-rest.ensures.rest c.requires.below.known (λ none. record {
      hangs = c.requires.below.below;
      before = (subst (λ v. 0 < order_at search v) (sym up) c.requires.at.settled, inl none);
      room = omega arith;
      cost = (let level = c.requires.ground.kept.level.down c.args.below (omega arith) in omega arith);
    })

pub reach-requires-clause-room : goal.reach-requires-clause-room
reach-requires-clause-room c =
    room_left c.args.ground.now c.args.search.now c.requires.ground c.requires.searching c.args.below
    c.requires.below.known
