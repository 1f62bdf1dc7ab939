use Rattle.std.proofs.Common.{ℕ, ◌≡◌, ◌<◌}
use Rattle.wave_problem.specs.Wave.{worker_at}
use Rattle.wave_text.proofs.comparing.are_same_workers.Given as goal

abbrev pub invariant-loop-number : goal.invariant-loop-number
invariant-loop-number l = (k : ℕ) → k < l.number → worker_at l.wave k ≡ worker_at l.other k
