use Rattle.std.proofs.Common.{string_bytes}
use Rattle.text_lines.specs.declared.streams.ReadError.TheVariants.{Memory}
use Rattle.command_runner.specs.CommandRun.{AnyLines, NoText}
use Rattle.command_runner.proofs.OneAnswer.{wrote_its_answer}
use Rattle.command_runner.proofs.Unanswered.{unread_text, unwritten, written}
use Rattle.job_run.specs.OneAnswer.{one_run_answer}
use Rattle.job_play.specs.PlayAnswer.{AreEnds}
use Rattle.job_run.specs.RunAnswer.{RunAnswer}
use Rattle.job_run.proofs.running.run_job.Goals as goal

pub returns-in_err-text-clause-ran : goal.returns-in_err-text-clause-ran
returns-in_err-text-clause-ran g c =
    unread_text (RunAnswer c.args.asked) NoText _ _ _ c.in_err-text.field-0.0 c.from_residual.result
    c.from_residual.ensures.1 c.in_err-text.ensures.unread

-- (want of memory in answering is told as in reading)
pub returns-in_err-lines-clause-ran : goal.returns-in_err-lines-clause-ran
returns-in_err-lines-clause-ran g c =
    unread_text (RunAnswer c.args.asked) NoText _ _ _ Memory c.from_residual-in_err-lines.result
    c.from_residual-in_err-lines.ensures.1 c.in_ok-text.ensures.unread

pub returns-in_err-write_text-clause-ran : goal.returns-in_err-write_text-clause-ran
returns-in_err-write_text-clause-ran g c =
    unwritten (RunAnswer c.args.asked) NoText _ _ _ _ c.in_ok-text.text.items c.as_slice.result.now
    (string_bytes c.in_ok-lines.lines) c.in_ok-lines.end c.in_ok-text.ensures.read
    c.as_slice.ensures.value c.in_ok-lines.ensures.answer c.in_ok-text.ensures.unread
    c.from_residual-in_err-write_text.result c.from_residual-in_err-write_text.ensures.1
    (rw c.as_bytes.ensures.value at c.in_err-write_text.ensures.err)

pub returns-clause-ran : goal.returns-clause-ran
returns-clause-ran g c =
    written (RunAnswer c.args.asked) NoText _ _ _ _ c.in_ok-text.text.items c.as_slice.result.now
    (string_bytes c.in_ok-lines.lines) c.in_ok-lines.end c.in_ok-text.ensures.read c.as_slice.ensures.value
    c.in_ok-lines.ensures.answer c.in_ok-text.ensures.unread c.ended.result c.ended.ensures
    (rw c.as_bytes.ensures.value at c.in_ok-write_text.ensures.ok)

pub returns-clause-same : goal.returns-clause-same
returns-clause-same g c =
    wrote_its_answer (RunAnswer c.args.asked) AreEnds AnyLines _ _ _ c.in_ok-text.text.items
    c.as_slice.result.now (string_bytes c.in_ok-lines.lines) c.in_ok-lines.end
    c.ended.result (one_run_answer c.args.asked) c.ended.ensures c.in_ok-text.ensures.read
    c.as_slice.ensures.value c.in_ok-lines.ensures.answer
    (rw c.as_bytes.ensures.value at c.in_ok-write_text.ensures.ok)
