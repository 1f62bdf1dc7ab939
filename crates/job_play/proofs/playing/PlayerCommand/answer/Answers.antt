use Rattle.std.proofs.Common.{Err, List, ap, string_bytes, subst, sym, ℕ}
use Rattle.line_rules.specs.declared.purpose.Purpose.TheVariants.{Playing}
use Rattle.line_rules.proofs.LeastFault.{tells_least}
use Rattle.line_rules.specs.Faulty.{IsFaulty}
use Rattle.report_lines.specs.Reports.{made_bytes}
use Rattle.job_play.proofs.Answered.{full_in_playing, plays_read, runs_out_in}
use Rattle.job_play.proofs.playing.PlayerCommand.answer.Goals as goal

pub returns-in_err-report-in-Ok-clause-full : goal.returns-in_err-report-in-Ok-clause-full
returns-in_err-report-in-Ok-clause-full g c full =
    let why = c.in_err-report-in-Ok.field-0.0 in
    runs_out_in c.args.text.now c.in-Ok.read c.in-Ok.ensures.ok
    (c.in_err-report-in-Ok.ensures.full
    (ap Err (full_in_playing why c.from_residual.result c.from_residual.ensures.1 full)))

pub returns-in_ok-report-in-Ok-clause-answers : goal.returns-in_ok-report-in-Ok-clause-answers
returns-in_ok-report-in-Ok-clause-answers g c =
    plays_read c.args.text.now c.in-Ok.read c.in_ok-report-in-Ok.report.end
    (made_bytes c.in_ok-report-in-Ok.report.lines) c.in-Ok.ensures.ok c.in_ok-report-in-Ok.ensures.report

pub returns-in_ok-of_text-in-Err-clause-answers : goal.returns-in_ok-of_text-in-Err-clause-answers
returns-in_ok-of_text-in-Err-clause-answers g c =
    subst (λ (line : List ℕ). IsFaulty Playing c.args.text.now c.in_ok-line-in-Err.fault line)
    (sym c.in_ok-of_text-in-Err.ensures)
    (tells_least Playing c.args.text.now c.in-Err.error c.in_ok-line-in-Err.fault
    (string_bytes c.in_ok-line-in-Err.line) c.in-Err.ensures.err c.in_ok-line-in-Err.ensures)
