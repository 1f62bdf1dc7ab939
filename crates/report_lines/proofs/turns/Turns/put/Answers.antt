use Rattle.std.proofs.Common.{◌≡◌, ◌++◌, ◌+◌, ◌<◌, ◌≤◌, ◌∙◌, List, ap, append-nil, arith, get_or, length}
use Rattle.std.proofs.Common.{map, refl, rules, string_bytes, subst, sym, take, take_all, ℕ}
use Rattle.std.specs.List.{flat_map}
use Rattle.std.proofs.lemmas.List.{length-map}
use Rattle.text_lines.specs.Streams.{AppendsFront, Moves}
use Rattle.command_runner.proofs.Waiting.{front_moved, front_of_first, moved_more, next_text, nothing_moved}
use Rattle.command_runner.proofs.Waiting.{on_err_of}
use Rattle.master_state.proofs.Lists.{at-map}
use Rattle.report_lines.specs.declared.tables.Tables.{Tables}
use Rattle.report_lines.specs.declared.turns.Turn.{Turn}
use Rattle.report_lines.specs.Lines.{copy_line}
use Rattle.report_lines.specs.Past.{IsPast, PastView, copies_of}
use Rattle.report_lines.specs.Reports.{turn_lines, turns_lines}
use Rattle.report_lines.specs.Rising.{IsRising}
use Rattle.report_lines.specs.ToldTurn.{ToldTurn, ToldTurns}
use Rattle.report_lines.specs.Turns.{told}
use Rattle.report_lines.proofs.Rise.{rising_at, sound_of}
use Rattle.report_lines.proofs.turns.Turns.put.Goals as goal

pub loop-turn-init : goal.loop-turn-init
loop-turn-init g c =
    let a = g.W.Write.contents c.args.writer.now in
    let parts = c.into_parts-story.ensures in
    let turns = c.deref-turn-items.result.now in
    let rising = subst (λ (l : List Turn). IsRising 0 (map told l) c.self.inside.seen)
    (sym c.deref-turn-items.ensures.value) c.self.invariant in
    record {
      tables = refl;
      may = subst IsPast (sym parts.parts) parts.past;
      rising = subst (λ (n : ℕ). IsRising 0 (map told turns) n)
          (ap (λ (t : ToldTurns). t.seen) c.self.view_is) rising;
      moved = subst (λ (t : List ℕ). Moves a a t c.args.piece.now) (sym (append-nil c.args.piece.now))
          (nothing_moved a c.args.piece.now);
    }

pub go_on-requires-clause-more : goal.go_on-requires-clause-more
go_on-requires-clause-more g c =
    let turns = c.deref-turn-items.result.now in
    let turn = c.turn-item.result in
    let place = c.loop-turn.turn-index in
    let below : place < length turns = search rules in
    (rising_at c.loop-turn.done c.args.self.now.seen place (map told turns) (told turn)
    (omega (arith, below, length-map turns told))
    (ap told c.turn-item.is ∙ sym (at-map told turns place turn)) c.loop-turn.invariant.rising).0

pub put_turn-requires : goal.put_turn-requires
put_turn-requires g c = sound_of _ _ _ _ _ c.go_on.ensures.may

pub loop-turn-preserved : goal.loop-turn-preserved
loop-turn-preserved g c =
    let old = g.W.Write.contents c.args.writer.now in
    let new = g.W.Write.contents c.put_turn.new.writer in
    let splits = c.args.splits.now in
    let workers = c.args.workers.now in
    let turns = c.deref-turn-items.result.now in
    let all = map told turns in
    let turn = c.turn-item.result in
    let place = c.loop-turn.turn-index in
    let story = c.into_parts-story.result.0 in
    let below : place < length turns = search rules in
    let inside : place < length all = omega (arith, below, length-map turns told) in
    let at : told turn ≡ get_or all place (told turn) =
    ap told c.turn-item.is ∙ sym (at-map told turns place turn) in
    let rise = rising_at c.loop-turn.done c.args.self.now.seen place all (told turn) inside at
    c.loop-turn.invariant.rising in
    let tables = c.go_on.ensures.tables c.into_parts-story.result.1 c.loop-turn.invariant.tables in
    let whole =
    ap (λ (t : Tables). string_bytes turn.before
    ++ flat_map (copy_line splits workers) (copies_of story.tree story.target t)) tables
    ∙ ap (λ (p : PastView). turn_lines splits workers p (told turn)) c.into_parts-story.ensures.parts
    ∙ ap (turn_lines splits workers c.args.past) at in
    let next = next_text (turn_lines splits workers c.args.past) c.args.piece.now all place (told turn) _
    inside whole in
    record {
      tables = tables;
      may = c.go_on.ensures.may;
      rising = rise.1;
      moved = subst (λ text. Moves old new text c.put_turn.new.piece) next
          (moved_more _ _ _ _ c.loop-turn.piece _ c.loop-turn.invariant.moved _ c.in_ok-put_turn.ensures.ok);
    }

pub returns-in_err-put_turn-clause-err : goal.returns-in_err-put_turn-clause-err
returns-in_err-put_turn-clause-err g c =
    let old = g.W.Write.contents c.args.writer.now in
    let new = g.W.Write.contents c.put_turn.new.writer in
    let splits = c.args.splits.now in
    let workers = c.args.workers.now in
    let turns = c.deref-turn-items.result.now in
    let all = map told turns in
    let turn = c.turn-item.result in
    let place = c.loop-turn.turn-index in
    let story = c.into_parts-story.result.0 in
    let line = turn_lines splits workers c.args.past in
    let below : place < length turns = search rules in
    let inside : place < length all = omega (arith, below, length-map turns told) in
    let at : told turn ≡ get_or all place (told turn) =
    ap told c.turn-item.is ∙ sym (at-map told turns place turn) in
    let tables = c.go_on.ensures.tables c.into_parts-story.result.1 c.loop-turn.invariant.tables in
    let whole =
    ap (λ (t : Tables). string_bytes turn.before
    ++ flat_map (copy_line splits workers) (copies_of story.tree story.target t)) tables
    ∙ ap (λ (p : PastView). turn_lines splits workers p (told turn)) c.into_parts-story.ensures.parts
    ∙ ap line at in
    let next = next_text line c.args.piece.now all place (told turn) _ inside whole in
    let front : AppendsFront old new (c.args.piece.now ++ flat_map line (take (place + 1) all)) =
    subst (AppendsFront old new) next
    (front_moved _ _ _ _ c.loop-turn.piece _ c.loop-turn.invariant.moved c.in_err-put_turn.ensures.err) in
    let shown : all ≡ c.args.self.now.each =
    ap (map told) c.deref-turn-items.ensures.value ∙ ap (λ (t : ToldTurns). t.each) c.self.view_is in
    on_err_of c.from_residual.result
    (subst (λ (l : List ToldTurn). AppendsFront old new (c.args.piece.now ++ flat_map line l)) shown
    (front_of_first line c.args.piece.now all (place + 1) old new front))

pub returns-clause-ok : goal.returns-clause-ok
returns-clause-ok g c =
    let old = g.W.Write.contents c.args.writer.now in
    let new = g.W.Write.contents c.loop-turn.writer in
    let turns = c.deref-turn-items.result.now in
    let all = map told turns in
    let past : length all ≤ c.loop-turn.turn-index =
    omega (arith, c.loop-turn-test.false, length-map turns told) in
    let shown : all ≡ c.args.self.now.each =
    ap (map told) c.deref-turn-items.ensures.value ∙ ap (λ (t : ToldTurns). t.each) c.self.view_is in
    subst (λ (l : List ToldTurn). Moves old new
    (c.args.piece.now ++ turns_lines c.args.splits.now c.args.workers.now c.args.past l) c.loop-turn.piece)
    (take_all c.loop-turn.turn-index all past ∙ shown) c.loop-turn.invariant.moved
