use Rattle.std.proofs.Common.{ℕ, ◌≡◌, ◌<◌, length, map}
use Rattle.std.specs.Prelude.{slice_index_or}
use Rattle.script_text.specs.Commands.{IsAmount, word_at}
use Rattle.script_text.proofs.numbers.numbers_in.Given as goal

abbrev pub invariant-loop-place : goal.invariant-loop-place
invariant-loop-place l =
    (length l.numbers.items ≡ l.place)
    × ((k d : ℕ) → k < length l.numbers.items
    → IsAmount (word_at (map (λ w. w.now) l.words) k) (slice_index_or l.numbers.items k d))
