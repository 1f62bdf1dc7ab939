use Rattle.flow_network.proofs.Pushing.{pushing_head, pushing_turn}
use Rattle.flow_network.proofs.network.push_units.Goals as goal
use Rattle.flow_network.proofs.network.push_units.Goals.{in-Forward, in-Reverse}

pub overflow_sub-flows : goal.overflow_sub-flows
overflow_sub-flows c =
    (pushing_head _ _ _ _ _ _ c.loop-arc-test.true c.in-Reverse.is c.loop-arc.invariant).room

pub loop-arc-preserved : goal.loop-arc-preserved
loop-arc-preserved c = elim c.match-arc.branch [
  | in-Forward w ↦
      pushing_turn _ _ _ _ _ _ c.loop-arc-test.true w.in-Forward.is c.loop-arc.invariant _ w.flows-is
  | in-Reverse w ↦
      pushing_turn _ _ _ _ _ _ c.loop-arc-test.true w.in-Reverse.is c.loop-arc.invariant _ w.flows-is
]
