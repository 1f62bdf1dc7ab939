use Rattle.std.proofs.Common.{ℕ, List, ◌<◌, Bor}
use Rattle.std.specs.Prelude.{slice_index_or}
use Rattle.line_shapes.specs.Places.{place_at}
use Rattle.line_rules.specs.Entered.{IsFitIn}
use Rattle.line_rules.proofs.fit.are_fit.Given as goal

abbrev pub invariant-loop-i : goal.invariant-loop-i
invariant-loop-i l = (k : ℕ) (d : Bor (List ℕ)) → k < l.i
    → IsFitIn l.version l.rows (place_at l.fn.keyword k) (slice_index_or l.words k d).now
