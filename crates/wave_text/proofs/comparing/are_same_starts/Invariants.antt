use Rattle.std.proofs.Common.{ℕ, ◌≡◌, ◌<◌}
use Rattle.wave_problem.specs.Assignment.{start_of}
use Rattle.wave_text.proofs.comparing.are_same_starts.Given as goal

abbrev pub invariant-loop-number : goal.invariant-loop-number
invariant-loop-number l = (k : ℕ) → k < l.number → start_of l.plan.starts k ≡ start_of l.other.starts k
