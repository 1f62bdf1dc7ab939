use Rattle.tree_flow.specs.Table.{IsOver}
use Rattle.tree_planner.specs.Reaching.{node_in}
use Rattle.tree_planner.proofs.Changed.{AreChanged}
use Rattle.tree_planner.proofs.Higher.{higher}
use Rattle.tree_planner.proofs.refill.lift.Given as goal

abbrev pub invariant-loop-node : goal.invariant-loop-node
invariant-loop-node l = record {
  over : IsOver l.problem.tree l.depth;
  higher : AreChanged (higher l.search) l.fn.depth (node_in l.search.reached.items) l.depth l.node-index;
}
