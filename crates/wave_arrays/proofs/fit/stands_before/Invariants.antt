use Rattle.std.proofs.Common.{◌<◌, ◌≢◌, ℕ}
use Rattle.std.specs.List.{slice_index_or}
use Rattle.wave_arrays.proofs.fit.stands_before.Given as goal

abbrev pub invariant-loop-k : goal.invariant-loop-k
invariant-loop-k l = (k d : ℕ) → k < l.k → slice_index_or l.held k d ≢ slice_index_or l.held l.i d
