use Rattle.std.proofs.Common.{◌≡◌, ◌<◌, true}
use Rattle.tree_flow.specs.Nodes.{is_under, IsNode}
use Rattle.tree_flow.specs.Table.{at_node}
use Rattle.tree_planner.proofs.Handed.{height}
use Rattle.tree_planner.proofs.down.free_worker.Given as goal

abbrev pub invariant-loop-at : goal.invariant-loop-at
invariant-loop-at l = record {
  known : IsNode l.problem.tree l.at;
  some : 0 < at_node l.below l.at;
  under : is_under l.problem.tree l.at l.fn.node ≡ true;
}

abbrev pub decreases-loop-at : goal.decreases-loop-at
decreases-loop-at l = height l.at
