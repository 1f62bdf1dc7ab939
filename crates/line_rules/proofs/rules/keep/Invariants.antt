use Rattle.std.proofs.Common.{ℕ, List, ◌<◌, Bor}
use Rattle.std.specs.Prelude.{slice_index_or}
use Rattle.line_shapes.specs.Places.{place_at}
use Rattle.line_rules.specs.Faults.{KeepsTo}
use Rattle.line_rules.proofs.rules.keep.Given as goal

abbrev pub invariant-loop-i : goal.invariant-loop-i
invariant-loop-i l = (k : ℕ) (d : Bor (List ℕ)) → k < l.i
    → KeepsTo l.rule l.rows (place_at l.line.keyword k) (slice_index_or l.line.words.now k d).now
