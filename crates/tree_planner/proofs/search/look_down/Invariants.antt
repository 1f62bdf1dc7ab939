use Rattle.std.proofs.Common.{ℕ, ◌<◌, get_or}
use Rattle.tree_flow.specs.declared.nodes.TreeNode.TheVariants.{Worker}
use Rattle.tree_planner.specs.Hanging.{hanging}
use Rattle.tree_planner.specs.Searching.{Improves, IsDown, IsSearching}
use Rattle.tree_planner.proofs.search.look_down.Given as goal

abbrev pub invariant-loop-below : goal.invariant-loop-below
invariant-loop-below l = record {
  searching : IsSearching l.ground l.search;
  improves : Improves l.fn.search l.search;
  down : (k : ℕ) → k < l.below-index
      → IsDown l.ground l.search l.node (get_or (hanging l.ground.children.now l.node) k (Worker 0));
}
