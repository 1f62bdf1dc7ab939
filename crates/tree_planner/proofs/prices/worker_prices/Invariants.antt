use Rattle.std.proofs.Common.{◌≡◌, ℕ, ◌<◌, length, slice_index}
use Rattle.tree_planner.specs.Priced.{IsWorkerPrice}
use Rattle.tree_planner.specs.View.{state_of}
use Rattle.tree_planner.proofs.prices.worker_prices.Given as goal

abbrev pub invariant-loop-w : goal.invariant-loop-w
invariant-loop-w l = record {
  size : length l.prices.items ≡ l.w;
  prices : (k : ℕ) → k < l.w → IsWorkerPrice l.problem (state_of l.tables) k (slice_index l.prices.items k);
}
