use Rattle.std.proofs.Common.{◌<◌, ℕ}
use Rattle.std.specs.List.{slice_index_or}
use Rattle.wave_problem.specs.Wave.{IsHeldWell, Split}
use Rattle.wave_problem.proofs.lines.are_held_well.Given as goal

abbrev pub invariant-loop-i : goal.invariant-loop-i
invariant-loop-i l = (k : ℕ) (d : Split) → k < l.i → IsHeldWell l.workers (slice_index_or l.splits k d)
