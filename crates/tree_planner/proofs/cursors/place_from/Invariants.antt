use Rattle.std.proofs.Common.{◌≡◌, ℕ, ◌≤◌, ◌<◌, get_or}
use Rattle.tree_flow.specs.declared.nodes.TreeNode.TheVariants.{Worker}
use Rattle.tree_flow.specs.Table.{at_node}
use Rattle.tree_planner.specs.Hanging.{hanging}
use Rattle.tree_planner.proofs.cursors.place_from.Given as goal

abbrev pub invariant-loop-k : goal.invariant-loop-k
invariant-loop-k l = (k : ℕ) → l.from ≤ k → k < l.k
    → at_node l.numbers (get_or (hanging l.fn.children l.fn.node) k (Worker 0)) ≡ 0
