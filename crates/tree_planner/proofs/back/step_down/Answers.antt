use Rattle.std.proofs.Common.{◌<◌, ap, arith, inl, sym, subst}
use Rattle.tree_planner.specs.SearchingBack.{far_at, order_at, state_at}
use Rattle.tree_planner.proofs.ImprovedBack.{room_left}
use Rattle.tree_planner.proofs.back.step_down.Goals as goal

pub overflow_add-distance : goal.overflow_add-distance
overflow_add-distance c =
    let most = c.requires.searching.most c.args.node in
    let small = c.requires.hollow.fixed.small in
    omega arith

pub overflow_sub-distance : goal.overflow_sub-distance
overflow_sub-distance c =
    let h = c.args.hollow.now in
    let up = c.requires.below.above in
    let depth = ap (state_at h).depth up in
    let level = c.requires.hollow.standing.kept.level.up c.args.below (omega arith) in
    omega arith

pub returns-then-flow_of-gt0-clause-searching : goal.returns-then-flow_of-gt0-clause-searching
returns-then-flow_of-gt0-clause-searching c =
    let h = c.args.hollow.now in
    let search = c.args.search.now in
    let up = c.requires.below.above in
    let far = ap (λ v. far_at search v) up in
    let depth = ap (state_at h).depth up in
    c.reach.ensures.kept h c.requires.searching c.requires.below.known (λ none. record {
      hangs = λ e.
          (let top = c.requires.hollow.standing.kept.balanced.top in
          let same = ap (state_at h).flow e in
          omega arith);
      before = (subst (λ v. 0 < order_at search v) (sym up) c.requires.at.settled, inl none);
      some = omega arith;
      cost = (let level = c.requires.hollow.standing.kept.level.up c.args.below (omega arith) in omega arith);
    })

pub reach-requires-clause-room : goal.reach-requires-clause-room
reach-requires-clause-room c =
    room_left c.args.hollow.now c.args.search.now c.requires.searching c.args.below c.requires.below.known
