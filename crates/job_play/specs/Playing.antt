-- Lines that are written after what stood there.
use Rattle.std.specs.Prelude.{ℕ, ◌≡◌, List, ◌++◌}
use Rattle.master_state.specs.Refusals.{Call}
use Rattle.master_state.specs.Jobs.{Job, Plain}
use Rattle.script_text.specs.declared.script.Names.{Names}
use Rattle.script_text.specs.declared.script.Command.{Command}
use Rattle.job_play.specs.Reports.{IsTold, Performs, PerformsAll, EndsReport}
use Rattle.job_play.specs.declared.player.PlayEnd.{PlayEnd}

-- the answer to a call
pub record IsAnswered (old : Job) (call : Call) (after : Plain → List ℕ) (before now : List ℕ) (new : Job)
    : Type 0 where
  pub out : List ℕ
  pub is_told : IsTold old call after out new
  pub written : now ≡ before ++ out

-- the command is performed
pub record Performed (names : Names) (target : ℕ) (old : Job) (c : Command) (before now : List ℕ) (new : Job)
    : Type 0 where
  pub out : List ℕ
  pub performs : Performs names target old c out new
  pub written : now ≡ before ++ out

-- some commands are performed
pub record PerformedAll (names : Names) (target : ℕ) (old : Job) (commands : List Command)
    (before now : List ℕ)
    (new : Job) : Type 0 where
  pub out : List ℕ
  pub performs : PerformsAll names target old commands out new
  pub written : now ≡ before ++ out

-- the script ends
pub record Ended (names : Names) (last : Job) (finish : PlayEnd) (before now : List ℕ) : Type 0 where
  pub out : List ℕ
  pub ends : EndsReport names last finish out
  pub written : now ≡ before ++ out
