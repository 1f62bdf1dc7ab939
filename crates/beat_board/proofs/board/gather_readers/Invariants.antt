use Rattle.std.proofs.Common.{◌≡◌, ℕ, List, vec_len}
use Rattle.std.specs.List.{All}
use Rattle.beat_board.specs.Values.{AreWithin}
use Rattle.beat_board.specs.Views.{making}
use Rattle.beat_board.proofs.board.gather_readers.Given as goal

abbrev pub invariant-loop-reader : goal.invariant-loop-reader
invariant-loop-reader l =
    (l.token.table_id ≡ l.fn.token.table_id) × (l.token.id ≡ l.fn.token.id) × (l.token.me.1 ≡ l.fn.token.me.1)
    × (l.token.me.0 ≡ making l.fn.token.me.0.tallies l.token.me.0.looks l.fn.token.me.0.next
    l.fn.token.me.0.made)
    × ((words : List ℕ) → AreWithin words l.token.me.0.looks
    → All (λ r. AreWithin words r.looks) l.readers.items
    → All (λ r. AreWithin words r.looks) l.initial.readers.items)
    × All (λ r. r.board ≡ l.shared.table_id) l.readers.items

abbrev pub decreases-loop-reader : goal.decreases-loop-reader
decreases-loop-reader l = vec_len l.readers
