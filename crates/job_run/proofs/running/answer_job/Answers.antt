use Rattle.std.proofs.Common.{string_bytes}
use Rattle.line_rules.specs.declared.purpose.Purpose.TheVariants.{Running}
use Rattle.line_rules.proofs.LeastFault.{tells_least}
use Rattle.job_run.proofs.Ran.{runs_read}
use Rattle.job_run.proofs.running.answer_job.Goals as goal

pub returns-in_ok-lines-in-Ok-clause-answer : goal.returns-in_ok-lines-in-Ok-clause-answer
returns-in_ok-lines-in-Ok-clause-answer g c =
    runs_read c.args.asked c.args.text.now c.in-Ok.read c.in_ok-lines-in-Ok.end
    (string_bytes c.in_ok-lines-in-Ok.lines) c.in-Ok.ensures.ok c.in_ok-lines-in-Ok.ensures.tells

pub returns-in_ok-line-in-Err-clause-answer : goal.returns-in_ok-line-in-Err-clause-answer
returns-in_ok-line-in-Err-clause-answer g c =
    tells_least Running c.args.text.now c.in-Err.error c.in_ok-line-in-Err.fault
    (string_bytes c.in_ok-line-in-Err.line) c.in-Err.ensures.err c.in_ok-line-in-Err.ensures
