use Rattle.std.proofs.Common.{subst}
use Rattle.tree_flow.specs.declared.nodes.End.{End}
use Rattle.tree_flow.specs.Settled.{HasComeDown}
use Rattle.tree_planner.specs.View.{state_of}
use Rattle.tree_planner.proofs.Looked.{stands_same}
use Rattle.tree_planner.proofs.Pulled.{come_same}
use Rattle.tree_planner.proofs.lose.pull_from.Goals as goal

pub stood_at-end-requires-clause-stands : goal.stood_at-end-requires-clause-stands
stood_at-end-requires-clause-stands c =
    let down = c.start_on-split.ensures.down in
    (down.0, down.1)

pub sink_toward-requires-clause-known : goal.sink_toward-requires-clause-known
sink_toward-requires-clause-known c =
    (c.requires.standing.kept.cheapest.ends c.start_on-split.result c.stood_at-end.result
    c.stood_at-end.ensures).known

pub sink_toward-requires-clause-down : goal.sink_toward-requires-clause-down
sink_toward-requires-clause-down c =
    let wave = c.args.problem.now in
    let old = state_of c.args.tables.now in
    let split = c.start_on-split.result in
    let end = c.stood_at-end.result in
    let down = c.start_on-split.ensures.down in
    come_same wave.tree old (state_of c.take_off.new.tables) end.node c.args.worker
    c.take_off.ensures.placed.flow
    (subst (λ (e : End). HasComeDown wave.tree old e.node c.args.worker)
    (stands_same old split down.0 end down.1 c.stood_at-end.ensures) down.2)
