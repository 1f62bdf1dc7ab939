use Rattle.std.proofs.Common.{◌≡◌, ◌+◌, ◌<◌, ◌≤◌, length}
use Rattle.std.specs.Prelude.{MatchOption}
use Rattle.tree_flow.specs.declared.nodes.TreeNode.{TreeNode}
use Rattle.tree_planner.specs.SearchingBack.{far_at, order_at, HasLookedFrom, IsNearest, IsSearching}
use Rattle.tree_planner.proofs.LookedBack.{open_count}
use Rattle.tree_planner.proofs.back.run.Given as goal

abbrev pub invariant-loop-next : goal.invariant-loop-next
invariant-loop-next l = record {
  hole : l.search.hole ≡ l.fn.search.hole;
  searching : IsSearching l.hollow l.search;
  looked : (u : TreeNode) → 0 < order_at l.search u → HasLookedFrom l.hollow l.search u;
  few : l.search.looked + open_count l.search l.hollow.fixed.now.nodes.items
      ≤ length l.hollow.fixed.now.nodes.items;
  next : MatchOption l.next ((v : TreeNode) → order_at l.search v ≡ 0 → l.search.bound ≤ far_at l.search v)
      (λ node. IsNearest l.hollow l.search node);
}

abbrev pub decreases-loop-next : goal.decreases-loop-next
decreases-loop-next l = open_count l.search l.hollow.fixed.now.nodes.items
