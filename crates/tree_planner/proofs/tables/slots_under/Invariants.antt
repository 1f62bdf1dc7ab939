use Rattle.std.proofs.Common.{◌≡◌, ◌*◌, ◌≤◌, cond}
use Rattle.wave_problem.specs.Sums.{sum_below}
use Rattle.wave_problem.specs.declared.TheConstants.{MAX_SLOTS}
use Rattle.tree_flow.specs.declared.nodes.TreeNode.{TreeNode}
use Rattle.tree_flow.specs.declared.nodes.TreeNode.TheVariants.{Worker}
use Rattle.tree_flow.specs.Nodes.{is_under}
use Rattle.tree_flow.specs.State.{slots_of}
use Rattle.tree_flow.specs.Table.{at_node, IsOver}
use Rattle.tree_planner.proofs.tables.slots_under.Given as goal

abbrev pub invariant-loop-w : goal.invariant-loop-w
invariant-loop-w l = record {
  over : IsOver l.problem.tree l.slots;
  most : (v : TreeNode) → at_node l.slots v ≤ MAX_SLOTS * l.w;
  sums : (v : TreeNode) → at_node l.slots v
      ≡ sum_below l.w (λ x. cond (is_under l.problem.tree (Worker x) v) (slots_of l.problem x) 0);
}
