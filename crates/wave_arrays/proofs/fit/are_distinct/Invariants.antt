use Rattle.std.proofs.Common.{◌<◌, ◌≢◌, ℕ}
use Rattle.std.specs.List.{slice_index_or}
use Rattle.wave_arrays.proofs.fit.are_distinct.Given as goal

abbrev pub invariant-loop-i : goal.invariant-loop-i
invariant-loop-i l = (a b d : ℕ) → a < b → b < l.i →
    slice_index_or l.held a d ≢ slice_index_or l.held b d
