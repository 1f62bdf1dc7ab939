use Rattle.std.proofs.Common.{◌≡◌, ℕ, ◌<◌, ◌≤◌}
use Rattle.tree_planner.specs.Reaching.{node_in}
use Rattle.tree_planner.specs.SearchingBack.{far_at, far_of, order_at, IsFresh}
use Rattle.tree_planner.proofs.back.nearest.Given as goal

abbrev pub invariant-loop-node : goal.invariant-loop-node
invariant-loop-node l = record {
  fresh : IsFresh l.hollow l.search l.best;
  seen : (k : ℕ) → k < l.node-index → order_at l.search (node_in l.search.reached.items k) ≡ 0
      → far_of l.search l.best ≤ far_at l.search (node_in l.search.reached.items k);
}
