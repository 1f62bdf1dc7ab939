use Rattle.std.proofs.Common.{Err, ap}
use Rattle.command_runner.proofs.OneAnswer.{wrote_its_answer}
use Rattle.command_runner.proofs.Unanswered.{unanswered, unread_text, unwritten, written}
use Rattle.command_runner.proofs.command.run_command.Goals as goal

pub returns-clause-same : goal.returns-clause-same
returns-clause-same g c =
    wrote_its_answer (g.C.Command.Answers c.args.command.now) g.C.Command.SameEnd g.C.Command.Alike _ _ _
    c.in_ok-text.text.items c.as_slice.result.now _ c.in_ok-lines.end c.ended.result
    (g.met.C.Command.one_answer c.args.command.now) c.ended.ensures c.in_ok-text.ensures.read
    c.as_slice.ensures.value c.in_ok-lines.ensures.answers c.in_ok-write_to.ensures.ok

pub returns-in_err-lines-clause-ran : goal.returns-in_err-lines-clause-ran
returns-in_err-lines-clause-ran g c =
    let command = c.args.command.now in
    unanswered (g.C.Command.Answers command) (g.C.Command.IsFull command) _ _ _ c.in_ok-text.text.items
    c.as_slice.result.now c.in_err-lines.field-0.0 c.from_residual-in_err-lines.result
    c.from_residual-in_err-lines.ensures.1 c.in_ok-text.ensures.read c.as_slice.ensures.value
    (λ full. c.in_err-lines.ensures.full (ap Err full)) c.in_ok-text.ensures.unread

pub returns-in_err-text-clause-ran : goal.returns-in_err-text-clause-ran
returns-in_err-text-clause-ran g c =
    let command = c.args.command.now in
    unread_text (g.C.Command.Answers command) (g.C.Command.IsFull command) _ _ _ c.in_err-text.field-0.0
    c.from_residual.result c.from_residual.ensures.1 c.in_err-text.ensures.unread

pub returns-in_err-write_to-clause-ran : goal.returns-in_err-write_to-clause-ran
returns-in_err-write_to-clause-ran g c =
    let command = c.args.command.now in
    unwritten (g.C.Command.Answers command) (g.C.Command.IsFull command) _ _ _ _ c.in_ok-text.text.items
    c.as_slice.result.now _ c.in_ok-lines.end c.in_ok-text.ensures.read c.as_slice.ensures.value
    c.in_ok-lines.ensures.answers c.in_ok-text.ensures.unread c.from_residual-in_err-write_to.result
    c.from_residual-in_err-write_to.ensures.1 c.in_err-write_to.ensures.err

pub returns-clause-ran : goal.returns-clause-ran
returns-clause-ran g c =
    let command = c.args.command.now in
    written (g.C.Command.Answers command) (g.C.Command.IsFull command) _ _ _ _ c.in_ok-text.text.items
    c.as_slice.result.now _ c.in_ok-lines.end c.in_ok-text.ensures.read c.as_slice.ensures.value
    c.in_ok-lines.ensures.answers c.in_ok-text.ensures.unread c.ended.result c.ended.ensures
    c.in_ok-write_to.ensures.ok
