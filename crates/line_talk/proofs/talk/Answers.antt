use Rattle.std.proofs.Common.{[], ◌∙◌, ap}
use Rattle.std.proofs.KnownBytes.{Consumes-nil}
use Rattle.std.proofs.lemmas.List.Elements.{All-nil}
use Rattle.command_runner.specs.declared.tool_error.ToolError.TheVariants as tool
use Rattle.line_talk.specs.Talks.{AtTurn, kept}
use Rattle.line_talk.specs.declared.Turn.TheVariants.{More}
use Rattle.line_talk.proofs.Lines.{ended_by, keeps_itself, over, over_of, settled_first, unanswered, unread_line}
use Rattle.line_talk.proofs.Lines.{went_on, whole_of}
use Rattle.line_talk.proofs.talk.Goals as goal

pub returns-in_err-line-clause-talked : goal.returns-in_err-line-clause-talked
returns-in_err-line-clause-talked g c =
    unread_line g.T.Talker.Replies _ _ _ _ _ _ _ _ c.args.talker.now []
    (settled_first (AtTurn g.T.Talker.Replies More) _ _ c.args.talker.now) (Consumes-nil _) (keeps_itself _)
    (All-nil _) tool.Memory tt c.from_residual.result c.from_residual.ensures.1

pub returns-in_err-read_line-clause-talked : goal.returns-in_err-read_line-clause-talked
returns-in_err-read_line-clause-talked g c =
    let finds = c.in_err-read_line.ensures.finds in
    unread_line g.T.Talker.Replies _ _ _ _ _ _ _ _ c.loop.talker _ c.loop.invariant.settled
    c.in_err-read_line.ensures.consumed (keeps_itself _) finds.1 c.in_err-read_line.field-0.0 finds.0
    c.from_residual-in_err-read_line.result c.from_residual-in_err-read_line.ensures.1

pub returns-in_err-answer_line-in-Whole-clause-talked : goal.returns-in_err-answer_line-in-Whole-clause-talked
returns-in_err-answer_line-in-Whole-clause-talked g c =
    let whole = whole_of 524288 c.clear.new.self.items c.read_line.new.line.items c.in_ok-read_line.ensures.bytes
    (g.R.Read.remaining c.loop.reader) c.in_ok-read_line.field-0 c.in-Whole.is c.in_ok-read_line.ensures.finds in
    let heard_is = c.as_slice.ensures.value ∙ whole.2 ∙ ap (λ l. kept 524288 l whole.0) c.clear.ensures.items in
    unanswered g.T.Talker.Replies _ _ _ _ _ _ _ _ c.answer_line.new.talker _ c.loop.invariant.settled
    c.in_ok-read_line.ensures.consumed whole.0 _ whole.1 heard_is c.in_err-answer_line-in-Whole.field-0.0
    c.from_residual-in_err-answer_line-in-Whole.result c.from_residual-in_err-answer_line-in-Whole.ensures.1
    c.in_err-answer_line-in-Whole.ensures.turned

pub returns-in-Last-clause-talked : goal.returns-in-Last-clause-talked
returns-in-Last-clause-talked g c =
    let whole = whole_of 524288 c.clear.new.self.items c.read_line.new.line.items c.in_ok-read_line.ensures.bytes
    (g.R.Read.remaining c.loop.reader) c.in_ok-read_line.field-0 c.in-Whole.is c.in_ok-read_line.ensures.finds in
    let heard_is = c.as_slice.ensures.value ∙ whole.2 ∙ ap (λ l. kept 524288 l whole.0) c.clear.ensures.items in
    ended_by g.T.Talker.Replies _ _ _ _ _ _ _ _ c.answer_line.new.talker _ c.loop.invariant.settled
    c.in_ok-read_line.ensures.consumed whole.0 _ whole.1 heard_is c.in_ok-answer_line-in-Whole.field-0 c.in-Last.is
    c.in_ok-answer_line-in-Whole.ensures.turned

pub returns-in-Over-clause-talked : goal.returns-in-Over-clause-talked
returns-in-Over-clause-talked g c =
    let finds = over_of 524288 c.clear.new.self.items c.read_line.new.line.items c.in_ok-read_line.ensures.bytes
    (g.R.Read.remaining c.loop.reader) c.in_ok-read_line.field-0 c.in-Over.is c.in_ok-read_line.ensures.finds in
    over (AtTurn g.T.Talker.Replies More) _ _ _ _ _ _ _ _ c.loop.invariant.settled c.in_ok-read_line.ensures.consumed
    finds.0 finds.2

pub loop-preserved : goal.loop-preserved
loop-preserved g c =
    let whole = whole_of 524288 c.clear.new.self.items c.read_line.new.line.items c.in_ok-read_line.ensures.bytes
    (g.R.Read.remaining c.loop.reader) c.in_ok-read_line.field-0 c.in-Whole.is c.in_ok-read_line.ensures.finds in
    let heard_is = c.as_slice.ensures.value ∙ whole.2 ∙ ap (λ l. kept 524288 l whole.0) c.clear.ensures.items in
    record {
      ready = c.in_ok-answer_line-in-Whole.ensures.ready;
      settled = went_on g.T.Talker.Replies _ _ _ _ _ _ _ _ c.answer_line.new.talker _ c.loop.invariant.settled
          c.in_ok-read_line.ensures.consumed whole.0 _ whole.1 heard_is c.in_ok-answer_line-in-Whole.field-0 c.in-More.is
          c.in_ok-answer_line-in-Whole.ensures.turned;
    }
