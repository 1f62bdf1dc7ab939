use Rattle.std.proofs.Common.{◌<◌, ◌≢◌, ℕ}
use Rattle.std.specs.List.{slice_index_or}
use Rattle.line_rules.proofs.rows.are_numbers_apart.Given as goal

abbrev pub invariant-loop-i : goal.invariant-loop-i
invariant-loop-i l =
    (a b : ℕ) (d : ℕ) → a < b → b < l.i → slice_index_or l.numbers a d ≢ slice_index_or l.numbers b d
