use Rattle.std.proofs.Common.{ℕ, ◌<◌, get_or}
use Rattle.std.specs.Prelude.{◌≢◌}
use Rattle.tree_planner.proofs.Paired.{no_pair}
use Rattle.tree_planner.proofs.lose.start_on.Given as goal

abbrev pub invariant-loop-pair : goal.invariant-loop-pair
invariant-loop-pair l = (k : ℕ) → k < l.pair-index → (get_or l.pairs k no_pair).1 ≢ l.worker
