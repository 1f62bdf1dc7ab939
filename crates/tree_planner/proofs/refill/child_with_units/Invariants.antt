use Rattle.std.proofs.Common.{◌≡◌, ℕ, ◌<◌, get_or}
use Rattle.tree_flow.specs.declared.nodes.TreeNode.TheVariants.{Worker}
use Rattle.tree_flow.specs.Table.{at_node}
use Rattle.tree_planner.specs.Hanging.{hanging}
use Rattle.tree_planner.proofs.refill.child_with_units.Given as goal

abbrev pub invariant-loop-below : goal.invariant-loop-below
invariant-loop-below l = (k : ℕ) → k < l.below-index
    → at_node l.tables.flow (get_or (hanging l.fn.fixed.children l.fn.node) k (Worker 0)) ≡ 0
