use Rattle.std.proofs.Common.{◌<◌, arith, ap, sym, ◌∙◌}
use Rattle.beat_board.specs.Values.{last_seen}
use Rattle.beat_board.proofs.Keeps.{looks_as, last_within}
use Rattle.beat_board.proofs.board.Board.look.Goals as goal

pub load-requires : goal.load-requires
load-requires c =
    let r = c.reader.inside in
    let small : c.index.result < 1024 =
    omega (
      arith,
      c.index.ensures.value,
      c.requires.worker,
      ap (λ x. x.workers) c.self.view_is,
      c.self.invariant.2,
    ) in (
      ap (λ x. x.board) c.reader.view_is ∙ c.requires.board ∙ sym (ap (λ x. x.board) c.self.view_is),
      omega (arith, c.self.invariant.0, small),
      looks_as _ _ r.token.me _ c.reader.invariant.1 c.reader.invariant.0,
    )

pub returns-clause-rises : goal.returns-clause-rises
returns-clause-rises c =
    let xs = c.reader.inside.token.me.0.looks in
    let same = ap (λ r. last_seen c.args.worker r.looks) (sym c.reader.view_is) in
    omega (arith, same, last_within _ _ xs c.load.ensures.2.2, ap (λ k. last_seen k xs) c.index.ensures.value)
