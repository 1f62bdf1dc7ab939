use Rattle.std.proofs.Common.{◌<◌, arith, ap, sym, ◌∙◌}
use Rattle.beat_board.specs.declared.view.View.{View}
use Rattle.beat_board.specs.Views.{making}
use Rattle.beat_board.proofs.Keeps.{seats_as, turns_as}
use Rattle.beat_board.proofs.board.Board.seat.Goals as goal

pub load-requires : goal.load-requires
load-requires c =
    let m = c.maker.inside in
    let small : c.index-worker.result < 1024 =
    omega (
      arith,
      c.index-worker.ensures.value,
      c.requires.worker,
      ap (λ x. x.workers) c.self.view_is,
      c.self.invariant.2,
    ) in (
      ap (λ x. x.board) c.maker.view_is ∙ c.requires.board ∙ sym (ap (λ x. x.board) c.self.view_is),
      omega (arith, c.self.invariant.0, small),
      turns_as _ _ m.token.me _ m.token.me.0.next m.seats c.maker.invariant.2 c.maker.invariant.1,
    )

pub split_seat-token-requires : goal.split_seat-token-requires
split_seat-token-requires c =
    let m = c.maker.inside in
    let t = c.load.ensures in
    let room = c.is_full.ensures.room c.if-is_full.false in
    let seats = ap (λ x. x.seats) c.maker.view_is in
    let now = t.2.0 ∙ ap
    (λ (v : View). making v.tallies v.looks c.index-worker.result v.made) c.maker.invariant.2 in (
      t.0 ∙ ap (λ x. x.board) c.maker.view_is ∙ c.requires.board ∙ sym (ap (λ x. x.board) c.self.view_is),
      omega (arith, c.self.invariant.0),
      seats_as _ _ c.index-worker.result m.seats (t.1 ∙ c.maker.invariant.0) now (omega (arith, room, seats)),
    )
