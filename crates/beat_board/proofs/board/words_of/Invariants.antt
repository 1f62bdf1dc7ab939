use Rattle.std.proofs.Common.{◌≡◌, ℕ, ◌<◌, length}
use Rattle.std.specs.Prelude.{slice_index}
use Rattle.std.specs.Slots.{slots_items}
use Rattle.beat_board.proofs.board.words_of.Given as goal

abbrev pub invariant-loop-worker : goal.invariant-loop-worker
invariant-loop-worker l =
    (length l.beats ≡ 1024)
    × ((k : ℕ) → k < l.worker → slice_index l.beats k ≡ slice_index (slots_items l.closed.words) k)
