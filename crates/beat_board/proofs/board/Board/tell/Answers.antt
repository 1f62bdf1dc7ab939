use Rattle.std.proofs.Common.{arith, ap, sym, ◌∙◌}
use Rattle.beat_board.proofs.Keeps.{readers, told_seen, hears_as}
use Rattle.beat_board.specs.declared.view.View.{View}
use Rattle.beat_board.specs.Views.{reading}
use Rattle.beat_board.specs.Steps.{shown}
use Rattle.beat_board.proofs.board.Board.tell.Goals as goal

pub split_seat-told-requires : goal.split_seat-told-requires
split_seat-told-requires c =
    let s = c.seat.inside in (
      ap (λ x. x.board) c.seat.view_is ∙ c.requires.seat ∙ sym (ap (λ x. x.board) c.self.view_is),
      omega (arith, c.self.invariant.0),
      readers s.token.id s.token.me.0 (shown s.token.me.0.tallies)
          (λ words h. told_seen words s.token.me.0 h),
    )

pub join_seat-requires : goal.join_seat-requires
join_seat-requires c =
    let told = c.split_seat-told.ensures in
    let here = sym (ap (λ x. x.board) c.self.view_is) in
    let view = ap (λ m. m.0) told.4 in (
      ap (λ x. x.board) c.reader.view_is ∙ c.requires.reader ∙ here,
      told.3 ∙ ap (λ x. x.board) c.seat.view_is ∙ c.requires.seat ∙ here,
      ap (λ m. m.1) told.4,
      omega (arith, c.self.invariant.0),
      hears_as _ _ _ _ (view ∙ ap (λ (v : View). reading v.looks) (sym view)),
    )
