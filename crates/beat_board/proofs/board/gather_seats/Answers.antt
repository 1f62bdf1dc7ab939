use Rattle.std.proofs.Common.{◌≡◌, arith, ap, ◌∙◌}
use Rattle.view_sums.proofs.Last.{all_but_last}
use Rattle.beat_board.specs.Values.{SeatValue}
use Rattle.beat_board.proofs.Keeps.{joins_as}
use Rattle.beat_board.proofs.board.gather_seats.Goals as goal

pub join_seat-requires : goal.join_seat-requires
join_seat-requires c =
    let i = c.loop-seat.invariant in
    let last = all_but_last
    (λ (x : SeatValue). x.board ≡ c.args.shared.now.table_id) _ _ _ c.in-Some.ensures.items i.7 in (
      i.0 ∙ c.requires.board.0,
      ap (λ x. x.board) c.seat.view_is ∙ last.1,
      c.seat.invariant.0,
      omega (arith, c.requires.board.1),
      joins_as _ _ _ _ _ _ _ _ _ _ i.1 i.3 c.seat.invariant.1,
    )
