-- The headline, of what is written.
use Rattle.std.specs.Prelude.{ℕ, ◌≡◌, Bool, List}
use Rattle.script_text.specs.declared.script.Names.{Names}
use Rattle.script_text.specs.declared.script.Script.{Script}
use Rattle.master_state.specs.States.{Setup}
use Rattle.master_state.specs.Jobs.{Job}
use Rattle.master_state.specs.Headline.{HasHeadline}
use Rattle.job_play.specs.Reports.{IsReport}
use Rattle.job_run.specs.RunAnswer.{TellsRun}
use Rattle.job_play.specs.declared.player.PlayEnd.{PlayEnd}
use Rattle.job_run.specs.declared.running.RunEnd.{RunEnd}

-- a job that was given so, and of which the headline holds
pub record IsHeadlineJob (setup : Setup) (job : Job) : Type 0 where
  pub given : job.setup ≡ setup
  pub headline : HasHeadline job

-- The headline holds of the job at which a report ends.
abbrev pub ReportsHaveHeadline : Type 0
ReportsHaveHeadline =
    (setup : Setup) (script : Script) (finish : PlayEnd) (out : List ℕ) →
    (report : IsReport setup script finish out) → IsHeadlineJob setup report.last

-- The headline holds of the job that a run's lines tell.
abbrev pub RunsHaveHeadline : Type 0
RunsHaveHeadline =
    (setup : Setup) (names : Names) (asked : Bool) (end : RunEnd) (out : List ℕ) →
    (run : TellsRun setup names asked end out) → IsHeadlineJob setup run.last
