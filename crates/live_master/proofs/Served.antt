-- How a session ends, by what was taken and written.
use Rattle.std.proofs.Common.{Bool, ℕ, List, ◌≡◌, ap, inl, inr, Option, Result, Ok, Err, refl, subst, sym}
use Rattle.std.specs.Io.KnownBytes.{Keeps}
use Rattle.std.specs.Result.{IsErrAnd}
use Rattle.text_lines.specs.Streams.{AppendsFront}
use Rattle.text_lines.specs.declared.fault.Fault.{Fault}
use Rattle.text_lines.specs.declared.fault.Fault.TheVariants.{Misplaced, NoFeed}
use Rattle.command_runner.specs.declared.tool_error.ToolError.{ToolError}
use Rattle.command_runner.specs.declared.tool_error.ToolError.TheVariants as tool
use Rattle.line_talk.specs.Talks.{IsOfReading, Talked, closed}
use Rattle.line_talk.specs.declared.TalkEnd.{TalkEnd}
use Rattle.line_talk.specs.declared.TalkEnd.TheVariants as talk
use Rattle.live_master.specs.Refusals.{refusal_line}
use Rattle.live_master.specs.Sessions.{CutsOff, EndsWith, IsEndOf, RepliesIn, Serves, ServesLines, Writes}
use Rattle.job_play.specs.declared.player.PlayEnd.{PlayEnd}
use Rattle.live_master.specs.declared.serving.Session.{Session}

is_error : {X : Type 0} (e : ToolError) (r : Result X ToolError) → IsErrAnd r (λ f. f ≡ e) → r ≡ Err e
is_error e (Ok x) is = absurd is
is_error e (Err f) is = ap Err is

-- ---- one answer

module _ {X : Type 0} (old new : Option (List ℕ)) (text : List ℕ) (r : Result X ToolError) where
  pub unwritten : IsErrAnd r (λ e. e ≡ tool.Memory) → Keeps old new → Writes old new text r
  unwritten is keeps =
      subst (λ (x : Result X ToolError). Writes old new text x) (sym (is_error tool.Memory r is)) keeps

  pub half_written : IsErrAnd r (λ e. e ≡ tool.Write) → AppendsFront old new text → Writes old new text r
  half_written is front =
      subst (λ (x : Result X ToolError). Writes old new text x) (sym (is_error tool.Write r is)) front

cut : (old new : Option (List ℕ)) (fault : Fault) (e : ToolError)
    → Writes {T = Unit {0}} old new (closed (refusal_line fault)) (Err e) → CutsOff old new fault e
cut old new fault tool.Write h = h
cut old new fault tool.Memory h = h
cut old new fault tool.Read h = absurd h
cut old new fault tool.HistoryFull h = absurd h
cut old new fault (tool.Text told) h = absurd h

pub cuts_off : (old new : Option (List ℕ)) (fault : Fault) (why : ToolError) (r : Result (Unit {0}) ToolError)
    → r ≡ Err why → Writes old new (closed (refusal_line fault)) r → CutsOff old new fault why
cuts_off old new fault why r is writes = cut old new fault why
    (subst (λ (x : Result (Unit {0}) ToolError). Writes old new (closed (refusal_line fault)) x) is writes)

-- ---- the lines

module _ (unread left old by : Option (List ℕ)) (before after : Session) where
  pub lines_stopped : (why : ToolError) (r : Result PlayEnd ToolError) → IsErrAnd r (λ e. e ≡ why)
      → Talked RepliesIn unread left old by before after (Err why)
      → ServesLines unread left old by before after r
  lines_stopped why r is talked =
      subst (ServesLines unread left old by before after) (sym (is_error why r is)) (inl talked)

  module _ (end : TalkEnd) (talked : Talked RepliesIn unread left old by before after (Ok end)) where
    pub lines_told : (finish : PlayEnd) → end ≡ talk.Told → IsEndOf finish after.master
        → ServesLines unread left old by before after (Ok finish)
    lines_told finish is ended =
        (subst (λ (e : TalkEnd). Talked RepliesIn unread left old by before after (Ok e)) is talked, ended)

    lines_cut : (new : Option (List ℕ)) (fault : Fault) (why : ToolError) → EndsWith end fault
        → CutsOff by new fault why → ServesLines unread left old new before after (Err why)
    lines_cut new fault why ends told = inr (record {
      by = by;
      end = end;
      fault = fault;
      ends_with = ends;
      talked = talked;
      told = told;
    })

    pub lines_over : (new : Option (List ℕ)) (why : ToolError) → end ≡ talk.Over
        → CutsOff by new Misplaced why
        → ServesLines unread left old new before after (Err why)
    lines_over new why is told =
        lines_cut new Misplaced why (subst (λ (e : TalkEnd). EndsWith e Misplaced) (sym is) refl) told

    pub lines_unfed : (new : Option (List ℕ)) (why : ToolError) → end ≡ talk.Unfed → CutsOff by new NoFeed why
        → ServesLines unread left old new before after (Err why)
    lines_unfed new why is told =
        lines_cut new NoFeed why (subst (λ (e : TalkEnd). EndsWith e NoFeed) (sym is) refl) told

-- ---- the whole session

module _ (audits : Bool) (unread left old new : Option (List ℕ)) (r : Result PlayEnd ToolError) where
  -- no session was opened, since something was wanting
  pub unopened : (why : ToolError) → IsOfReading why → IsErrAnd r (λ e. e ≡ why) → Keeps old new
      → Serves audits unread left old new r
  unopened tool.Read of is keeps =
      subst (Serves audits unread left old new) (sym (is_error tool.Read r is)) (inl keeps)
  unopened tool.Memory of is keeps =
      subst (Serves audits unread left old new) (sym (is_error tool.Memory r is)) (inl keeps)
  unopened tool.Write of is keeps = absurd of
  unopened tool.HistoryFull of is keeps = absurd of
  unopened (tool.Text fault) of is keeps = absurd of

  -- or since the first answer was not written
  pub ungreeted : (line : List ℕ) (why : ToolError) → IsErrAnd r (λ e. e ≡ why)
      → Writes {T = Unit {0}} old new (closed line) (Err why) → Serves audits unread left old new r
  ungreeted line tool.Write is front =
      subst (Serves audits unread left old new) (sym (is_error tool.Write r is)) (inl (line, front))
  ungreeted line tool.Memory is keeps =
      subst (Serves audits unread left old new) (sym (is_error tool.Memory r is)) (inl keeps)
  ungreeted line tool.Read is none = absurd none
  ungreeted line tool.HistoryFull is none = absurd none
  ungreeted line (tool.Text fault) is none = absurd none
