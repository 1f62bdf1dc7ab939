use Rattle.std.proofs.Common.{arith, inl, sym, ap, ◌∙◌}
use Rattle.tree_flow.specs.Nodes.{parent}
use Rattle.tree_planner.specs.SearchingBack.{order_at, state_at, wave_of}
use Rattle.tree_planner.proofs.ImprovedBack.{room_left}
use Rattle.tree_planner.proofs.back.look_up.Goals as goal

pub overflow_add-distance : goal.overflow_add-distance
overflow_add-distance c =
    let most = c.requires.searching.most c.args.node in
    let small = c.requires.hollow.fixed.small in
    omega arith

pub overflow_sub-distance : goal.overflow_sub-distance
overflow_sub-distance c =
    let level = c.requires.hollow.standing.kept.level.down c.args.node (omega arith) in
    let same = ap (state_at c.args.hollow.now).depth c.above-up.ensures.node in
    omega arith

pub returns-then-flow_of-slots_at-clause-searching : goal.returns-then-flow_of-slots_at-clause-searching
returns-then-flow_of-slots_at-clause-searching c =
    let h = c.args.hollow.now in
    let level = c.requires.hollow.standing.kept.level.down c.args.node (omega arith) in
    let same = ap (state_at h).depth c.above-up.ensures.node in
    c.reach.ensures.kept h c.requires.searching c.above-up.ensures.known (λ none. record {
      known = c.requires.known;
      hangs = λ e.
          (let some = c.requires.at.settled in
          let up = ap (λ v. order_at c.args.search.now v) (c.above-up.ensures.node ∙ ap (parent
          (wave_of h).tree) e ∙ sym e) in
          omega arith);
      above = sym c.above-up.ensures.node;
      before = (c.requires.at.settled, inl none);
      room = omega arith;
      cost = omega arith;
    })

pub reach-requires-clause-room : goal.reach-requires-clause-room
reach-requires-clause-room c =
    room_left c.args.hollow.now c.args.search.now c.requires.searching c.above-up.result c.above-up.ensures.known
