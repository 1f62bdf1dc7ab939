use Rattle.std.proofs.Common.{◌≡◌, ◌≤◌, true, Some}
use Rattle.tree_flow.specs.declared.nodes.TreeNode.{TreeNode}
use Rattle.tree_flow.specs.Nodes.{is_under, IsNode}
use Rattle.tree_flow.specs.State.{IsKeptBut}
use Rattle.tree_planner.specs.View.{state_of, AreTables}
use Rattle.tree_planner.proofs.Handed.{height}
use Rattle.std.proofs.Common.{◌-◌}
use Rattle.tree_planner.proofs.down.raise_hole.Given as goal

abbrev pub invariant-loop-node : goal.invariant-loop-node
invariant-loop-node l = record {
  tables : AreTables l.problem l.tables;
  kept : IsKeptBut l.problem (state_of l.tables) (Some l.hole);
  known : IsNode l.problem.tree l.hole;
  under : is_under l.problem.tree l.hole l.node ≡ true;
  flat : (u : TreeNode) → is_under l.problem.tree l.hole u ≡ true → is_under l.problem.tree u l.node ≡ true
      → (state_of l.tables).depth u ≡ (state_of l.tables).depth l.node;
  flows : (c : TreeNode) → (state_of l.fn.tables).flow c ≤ (state_of l.tables).flow c;
  terms : (state_of l.tables).terms ≡ (state_of l.fn.tables).terms;
  places : (state_of l.tables).places ≡ (state_of l.fn.tables).places;
  depth : l.tables.depth ≡ l.fn.tables.depth;
}

abbrev pub decreases-loop-node : goal.decreases-loop-node
decreases-loop-node l = 3 - height l.hole
