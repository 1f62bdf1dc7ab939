use Rattle.std.proofs.Common.{◌≤◌}
use Rattle.tree_flow.specs.declared.nodes.TreeNode.{TreeNode}
use Rattle.tree_flow.specs.Table.{at_node, IsOver}
use Rattle.tree_planner.specs.Searching.{reached_at}
use Rattle.tree_planner.proofs.Changed.{AreChanged}
use Rattle.tree_planner.proofs.Deeper.{deeper}
use Rattle.tree_planner.proofs.follow.deepen.Given as goal

abbrev pub invariant-loop-k : goal.invariant-loop-k
invariant-loop-k l = record {
  over : IsOver l.problem.tree l.depth;
  low : (v : TreeNode) → at_node l.depth v ≤ l.worth;
  deeper : AreChanged (deeper l.worth l.search) l.fn.depth (reached_at l.search) l.depth l.k;
}
