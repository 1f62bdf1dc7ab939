use Rattle.std.proofs.Common.{◌<◌, ◌≢◌, ℕ}
use Rattle.std.specs.List.{slice_index_or}
use Rattle.line_rules.proofs.rows.stands_before.Given as goal

abbrev pub invariant-loop-k : goal.invariant-loop-k
invariant-loop-k l = (k : ℕ) (d : ℕ) → k < l.k → slice_index_or l.numbers k d ≢ slice_index_or l.numbers l.i d
