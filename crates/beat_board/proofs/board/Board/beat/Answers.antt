use Rattle.std.proofs.Common.{◌<◌, ◌+◌, arith, ap, sym, subst, ◌∙◌}
use Rattle.std.specs.List.{All}
use Rattle.beat_board.specs.Views.{answers}
use Rattle.beat_board.proofs.Keeps.{beats_as, told_head}
use Rattle.beat_board.proofs.board.Board.beat.Goals as goal

pub fetch_add-found-requires : goal.fetch_add-found-requires
fetch_add-found-requires c =
    let s = c.seat.inside in
    let room = c.if-seat-ge-MAX_BEATS.false in (
      ap (λ x. x.board) c.seat.view_is ∙ c.requires ∙ sym (ap (λ x. x.board) c.self.view_is),
      omega (arith, c.seat.invariant.3, c.self.invariant.0),
      beats_as _ _ s.token.me s.worker s.beats
          (answers s.token.me.0.tallies) c.seat.invariant.1 c.seat.invariant.0
          c.seat.invariant.3 room,
    )

pub returns-clause-rises : goal.returns-clause-rises
returns-clause-rises c =
    let found = c.fetch_add-found.result in
    let known = told_head found _ _ _ _ c.seat.invariant.1 c.fetch_add-found.ensures.2.3 in
    subst (λ told. All (λ k. k < found + 1) told) (ap (λ s. s.told) c.seat.view_is) known
