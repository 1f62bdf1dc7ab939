use Rattle.std.proofs.Common.{◌<◌, ◌≢◌, ℕ}
use Rattle.std.specs.List.{slice_index_or}
use Rattle.wave_problem.proofs.lines.are_distinct.Given as goal

abbrev pub invariant-loop-i : goal.invariant-loop-i
invariant-loop-i l = (a b d : ℕ) → a < b → b < l.i →
    slice_index_or l.holders a d ≢ slice_index_or l.holders b d
