use Rattle.std.proofs.Common.{◌≡◌, ℕ, ◌<◌, get_or}
use Rattle.tree_flow.specs.declared.nodes.TreeNode.TheVariants.{Worker}
use Rattle.tree_planner.specs.Hanging.{hanging}
use Rattle.tree_planner.specs.SearchingBack.{Improves, IsDown, IsSearching}
use Rattle.tree_planner.proofs.back.look_down.Given as goal

abbrev pub invariant-loop-below : goal.invariant-loop-below
invariant-loop-below l = record {
  hole : l.search.hole ≡ l.fn.search.hole;
  searching : IsSearching l.hollow l.search;
  improves : Improves l.fn.search l.search;
  up : (k : ℕ) → k < l.below-index
      → IsDown l.hollow l.search l.node (get_or (hanging l.hollow.fixed.now.children l.node) k (Worker 0));
}
