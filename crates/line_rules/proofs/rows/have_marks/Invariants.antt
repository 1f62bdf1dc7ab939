use Rattle.std.proofs.Common.{◌≢◌, ◌<◌, ℕ, List, Bor}
use Rattle.std.specs.List.{slice_index_or}
use Rattle.line_rules.proofs.Numbered.{IsSeen}
use Rattle.line_rules.proofs.rows.have_marks.Given as goal

-- each name so far is a split's, whose number is marked, and these names differ
abbrev pub invariant-loop-i : goal.invariant-loop-i
invariant-loop-i l =
    ((k : ℕ) (d : Bor (List ℕ)) → k < l.i → IsSeen l.firsts.entries l.seen (slice_index_or l.names k d).now)
    × ((a b : ℕ) (d : Bor (List ℕ)) → a < b → b < l.i
    → (slice_index_or l.names a d).now ≢ (slice_index_or l.names b d).now)
