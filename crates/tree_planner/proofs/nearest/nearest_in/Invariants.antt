use Rattle.std.proofs.Common.{◌≡◌, ℕ, ◌*◌, ◌<◌, ◌≤◌}
use Rattle.tree_planner.specs.Searching.{far_at, order_at, reached_at, IsCandidate}
use Rattle.tree_planner.proofs.nearest.nearest_in.Given as goal

abbrev pub invariant-loop-k : goal.invariant-loop-k
invariant-loop-k l = record {
  fresh : IsCandidate l.search l.best;
  seen : (k : ℕ) → k < l.k → l.block * 32 ≤ k → order_at l.search (reached_at l.search k) ≡ 0
      → l.best.far ≤ far_at l.search (reached_at l.search k);
}
