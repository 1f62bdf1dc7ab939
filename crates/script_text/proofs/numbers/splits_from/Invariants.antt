use Rattle.std.proofs.Common.{ℕ, ◌≡◌, ◌+◌, ◌<◌, length, map}
use Rattle.std.specs.Prelude.{slice_index_or}
use Rattle.script_text.specs.Commands.{IsNumbered, word_at}
use Rattle.script_text.proofs.numbers.splits_from.Given as goal

abbrev pub invariant-loop-place : goal.invariant-loop-place
invariant-loop-place l =
    (l.first + length l.splits.items ≡ l.place)
    × ((k d : ℕ) → k < length l.splits.items
    → IsNumbered l.names (word_at (map (λ w. w.now) l.words) (l.first + k))
    (slice_index_or l.splits.items k d))
