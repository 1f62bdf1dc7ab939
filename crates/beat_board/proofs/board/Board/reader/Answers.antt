use Rattle.std.proofs.Common.{arith, ap, sym, ◌∙◌, []}
use Rattle.beat_board.proofs.Keeps.{readers, none_seen}
use Rattle.beat_board.proofs.board.Board.reader.Goals as goal

pub split_seat-token-requires : goal.split_seat-token-requires
split_seat-token-requires c =
    let m = c.maker.inside in (
      ap (λ x. x.board) c.maker.view_is ∙ c.requires ∙ sym (ap (λ x. x.board) c.self.view_is),
      omega (arith, c.self.invariant.0),
      readers m.token.id m.token.me.0 [] (λ words _. none_seen words),
    )
