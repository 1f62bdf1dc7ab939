use Rattle.std.proofs.Common.{ℕ, ◌<◌}
use Rattle.std.specs.Prelude.{slice_index_or}
use Rattle.line_rules.specs.Entering.{Key}
use Rattle.line_rules.specs.Faults.{HasItsPrice}
use Rattle.line_rules.specs.Known.{keys_of}
use Rattle.line_rules.proofs.rules.are_priced.Given as goal

abbrev pub invariant-loop-row : goal.invariant-loop-row
invariant-loop-row l = (k : ℕ) (d : Key) → k < l.row
    → HasItsPrice l.rows (slice_index_or (keys_of l.rows) k d)
