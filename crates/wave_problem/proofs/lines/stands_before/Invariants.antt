use Rattle.std.proofs.Common.{◌<◌, ◌≢◌, ℕ}
use Rattle.std.specs.List.{slice_index_or}
use Rattle.wave_problem.proofs.lines.stands_before.Given as goal

abbrev pub invariant-loop-k : goal.invariant-loop-k
invariant-loop-k l = (k d : ℕ) → k < l.k → slice_index_or l.holders k d ≢ slice_index_or l.holders l.i d
