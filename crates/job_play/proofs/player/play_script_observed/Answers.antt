use Rattle.std.proofs.Common.{IfOk, ap, subst}
use Rattle.report_lines.specs.Reports.{made_bytes}
use Rattle.master_state.specs.States.{Setup}
use Rattle.job_play.specs.Reports.{IsReport}
use Rattle.job_play.specs.Rooms.{setup_for}
use Rattle.job_play.proofs.player.play_script_observed.Goals as goal

pub returns-clause-report : goal.returns-clause-report
returns-clause-report g c =
    subst (λ cluster. IfOk c.report_of.result (λ report. IsReport (setup_for cluster c.args.script.now)
    c.args.script.now report.end (made_bytes report.lines)))
    (ap (λ (setup : Setup). setup.cluster) c.in_ok-master.ensures.setup) c.report_of.ensures.report
