use Rattle.std.proofs.Common.{◌≡◌, ◌≢◌, ◌<◌, ◌+◌, ◌-◌, ◌*◌, ◌%◌, ℕ, List, Bor, false, length, true}
use Rattle.std.specs.List.{slice_index_or}
use Rattle.line_shapes.proofs.apart.have_marks.Given as goal

abbrev pub mark : List ℕ → ℕ
mark name = (slice_index_or name (length name - 1) 0 + 16 * slice_index_or name (length name - 2) 0) % 128

-- the marks of the names so far were seen, and these names differ
abbrev pub invariant-loop-i : goal.invariant-loop-i
invariant-loop-i l =
    (length l.seen ≡ 128)
    × ((k : ℕ) (d : Bor (List ℕ)) → k < l.i
    → slice_index_or l.seen (mark (slice_index_or l.names k d).now) false ≡ true)
    × ((a b : ℕ) (d : Bor (List ℕ)) → a < b → b < l.i
    → (slice_index_or l.names a d).now ≢ (slice_index_or l.names b d).now)
