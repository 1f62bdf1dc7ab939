use Rattle.std.proofs.Common.{◌≡◌, arith, ap, ◌∙◌}
use Rattle.view_sums.proofs.Last.{all_but_last}
use Rattle.beat_board.specs.declared.view.View.{View}
use Rattle.beat_board.specs.Values.{ReaderValue}
use Rattle.beat_board.specs.Views.{reading}
use Rattle.beat_board.specs.Steps.{gathers}
use Rattle.beat_board.proofs.Keeps.{hears_as}
use Rattle.beat_board.proofs.Gathers.{more_seen, remade_looks}
use Rattle.beat_board.proofs.board.gather_readers.Goals as goal

pub join_seat-requires : goal.join_seat-requires
join_seat-requires c =
    let i = c.loop-reader.invariant in
    let last = all_but_last
    (λ (x : ReaderValue). x.board ≡ c.args.shared.now.table_id) _ _ _ c.in-Some.ensures.items i.5 in (
      i.0 ∙ c.requires.board.0,
      ap (λ x. x.board) c.reader.view_is ∙ last.1,
      c.reader.invariant.0,
      omega (arith, c.requires.board.1),
      hears_as _ _ _ _ c.reader.invariant.1,
    )

pub loop-reader-preserved : goal.loop-reader-preserved
loop-reader-preserved c =
    let i = c.loop-reader.invariant in
    let looks = c.reader.inside.token.me.0.looks in
    let j = c.join_seat.ensures in
    let items = c.in-Some.ensures.items in
    let last = all_but_last (λ (x : ReaderValue). x.board ≡ c.args.shared.now.table_id) _ _ _ items i.5 in
    let old = c.loop-reader.token.me.0 in
    let new = c.join_seat.new.seat.me.0 in
    let now : new ≡ gathers old (reading looks) =
    ap (λ m. m.0) j.2 ∙ ap (λ (v : View). gathers old v) c.reader.invariant.1 in (
      j.0 ∙ i.0,
      j.1 ∙ i.1,
      ap (λ m. m.1) j.2 ∙ i.2,
      remade_looks new old looks _ _ _ _ now i.3,
      λ words within others.
          let s = more_seen words old new looks c.in-Some.reader c.pop.new.self.items
          c.loop-reader.readers.items now
          (ap (λ y. y.looks) c.reader.view_is) items within in
          i.4 words s.1 (s.0 s.1 others),
      last.0,
    )
