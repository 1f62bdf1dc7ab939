use Rattle.std.proofs.Common.{ℕ, ◌≡◌, ◌<◌}
use Rattle.wave_problem.specs.Wave.{split_at}
use Rattle.wave_text.proofs.comparing.are_same_splits.Given as goal

abbrev pub invariant-loop-number : goal.invariant-loop-number
invariant-loop-number l = (k : ℕ) → k < l.number → split_at l.wave k ≡ split_at l.other k
