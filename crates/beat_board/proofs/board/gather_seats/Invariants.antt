use Rattle.std.proofs.Common.{◌≡◌, ◌+◌, ℕ, length, vec_len, []}
use Rattle.std.specs.List.{All}
use Rattle.beat_board.specs.Values.{beats_by, told_by}
use Rattle.beat_board.specs.Rule.{beats_of, told_of}
use Rattle.beat_board.specs.Views.{making}
use Rattle.beat_board.proofs.board.gather_seats.Given as goal

abbrev pub invariant-loop-seat : goal.invariant-loop-seat
invariant-loop-seat l =
    (l.token.table_id ≡ l.fn.token.table_id) × (l.token.id ≡ 0) × (l.token.me.1 ≡ l.fn.token.me.1)
    × (l.token.me.0 ≡ making l.token.me.0.tallies [] l.token.me.0.next l.fn.token.me.0.made)
    × (length l.token.me.0.tallies + length l.seats.items ≡ length l.initial.seats.items)
    × ((w : ℕ) → beats_of w l.token.me.0.tallies + beats_by w l.seats.items
    ≡ beats_by w l.initial.seats.items)
    × ((w : ℕ) (f : ℕ → ℕ)
    → told_of w f l.token.me.0.tallies + told_by w f l.seats.items ≡ told_by w f l.initial.seats.items)
    × All (λ s. s.board ≡ l.shared.table_id) l.seats.items

abbrev pub decreases-loop-seat : goal.decreases-loop-seat
decreases-loop-seat l = vec_len l.seats
