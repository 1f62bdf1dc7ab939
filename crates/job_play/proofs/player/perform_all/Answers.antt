use Rattle.std.proofs.Common.{rules, ◌∙◌, sym}
use Rattle.certificate_checker.proofs.Verdicts.{err_is}
use Rattle.job_play.proofs.Growth.{runs_out}
use Rattle.job_play.proofs.Kept.{performed_setup}
use Rattle.job_play.proofs.Played.{performed_more}
use Rattle.job_play.proofs.player.perform_all.Goals as goal

pub loop-command-preserved : goal.loop-command-preserved
loop-command-preserved g c =
    let done = c.in_ok-perform_in_report.ensures.ok in
    record {
      setup = performed_setup done ∙ c.loop-command.invariant.setup;
      given = c.in_ok-perform_in_report.ensures.given;
      seen = c.in_ok-perform_in_report.ensures.seen;
      performed = performed_more _ _ _ _ _ c.deref-command-items.result.now c.loop-command.command-index
          c.command-item.result _ _ _ (search rules) c.command-item.is c.loop-command.invariant.performed
          done;
    }

pub returns-in_err-perform_in_report-clause-full : goal.returns-in_err-perform_in_report-clause-full
returns-in_err-perform_in_report-clause-full g c full =
    let left = c.from_residual-in_err-perform_in_report in
    let is = err_is left.result c.in_err-perform_in_report.field-0.0 left.ensures.1 in
    let lacks = c.in_err-perform_in_report.ensures.full (sym is ∙ full) in
    runs_out c.args.script.now c.deref-command-items.result.now c.args.master.now _
    c.loop-command.command-index
    c.command-item.result _ _ (search rules) c.requires.opening (search rules) c.command-item.is
    c.loop-command.invariant.setup c.loop-command.invariant.performed lacks
