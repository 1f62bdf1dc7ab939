use Rattle.std.proofs.Common.{◌≤◌, arith, ap, sym, ◌∙◌, length, slice_index}
use Rattle.std.specs.List.{sum_by}
use Rattle.std.specs.Slots.{slots_items}
use Rattle.beat_board.specs.declared.view.View.{View}
use Rattle.beat_board.specs.Values.{down_from}
use Rattle.beat_board.specs.Rule.{beats_of, told_of}
use Rattle.beat_board.proofs.Keeps.{Gathered}
use Rattle.beat_board.proofs.Gathers.{ended, whole_end}
use Rattle.beat_board.proofs.board.Board.totals.Goals.{After-words_of-beats}
use Rattle.beat_board.proofs.board.Board.totals.Goals as goal

-- what the words tell of the maker's last view, and that all seats are in it
end : (c : After-words_of-beats) →
    Gathered (slots_items c.close_with-closed.result.words) c.gather_readers.new.token.me.0.tallies
    c.gather_readers.new.token.me.0.looks c.args.maker.seats
end c =
    let s = c.gather_seats.ensures in
    let r = c.gather_readers.ensures in
    let t = c.gather_readers.new.token in
    let made = ap (λ (v : View). v.made) s.view ∙ ap (λ (v : View). v.made) c.maker.invariant.2
    ∙ ap (λ x. x.seats) c.maker.view_is in
    ended _ _ t.id t.me.0 _ c.close_with-closed.ensures.values.2 (r.same.1 ∙ s.same.1)
    (whole_end t.me.0 c.gather_seats.new.token.me.0 _ r.view made)

all_in : (c : After-words_of-beats) → c.args.maker.seats ≤ length c.gather_readers.new.token.me.0.tallies
all_in c =
    omega (
      arith,
      c.gather_seats.ensures.count,
      ap (λ (v : View). length v.tallies) c.gather_readers.ensures.view,
      c.requires.all,
    )

pub returns-clause-made : goal.returns-clause-made
returns-clause-made c =
    let last = (goal.at.returns-clause-made c).After-words_of-beats in
    omega (
      arith,
      (end last).few,
      c.gather_seats.ensures.count,
      ap (λ (v : View). length v.tallies) c.gather_readers.ensures.view,
      c.requires.all,
    )

pub returns-clause-sums : goal.returns-clause-sums
returns-clause-sums c w lt =
    let last = (goal.at.returns-clause-sums c).After-words_of-beats in
    ap (λ ws. slice_index ws w) c.words_of-beats.ensures ∙ (end last).sums (all_in last) w lt
    ∙ ap (λ (v : View). beats_of w v.tallies) c.gather_readers.ensures.view ∙ c.gather_seats.ensures.sums w

pub returns-clause-told : goal.returns-clause-told
returns-clause-told c w lt f =
    let last = (goal.at.returns-clause-told c).After-words_of-beats in
    sym (c.gather_seats.ensures.told w f)
    ∙ sym (ap (λ (v : View). told_of w f v.tallies) c.gather_readers.ensures.view)
    ∙ (end last).told (all_in last) w lt f
    ∙ ap (λ ws. sum_by f (down_from (slice_index ws w))) (sym c.words_of-beats.ensures)
