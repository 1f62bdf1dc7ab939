use Rattle.std.proofs.Common.{◌≡◌, ◌+◌, ◌<◌, ◌≤◌, length}
use Rattle.tree_flow.specs.declared.nodes.TreeNode.{TreeNode}
use Rattle.tree_planner.specs.Searching.{order_at, HasLookedFrom, HasStarted, IsSearching}
use Rattle.tree_planner.proofs.Counted.{open_count}
use Rattle.tree_planner.proofs.search.run.Given as goal

abbrev pub invariant-loop-node : goal.invariant-loop-node
invariant-loop-node l = record {
  split : l.search.split ≡ l.fn.search.split;
  searching : IsSearching l.ground l.search;
  started : HasStarted l.ground l.search;
  looked : (u : TreeNode) → 0 < order_at l.search u → HasLookedFrom l.ground l.search u;
  few : l.search.looked + open_count l.search l.ground.nodes.now ≤ length l.ground.nodes.now;
}

abbrev pub decreases-loop-node : goal.decreases-loop-node
decreases-loop-node l = open_count l.search l.ground.nodes.now
