-- The room that a script needs.
use Rattle.std.specs.Prelude.{ℕ, ◌≡◌, ◌≤◌, ◌+◌, ◌*◌, ◌<◌, ◌++◌, ◌∷◌, Bool, true, false, List, length}
use Rattle.std.specs.Prelude.{min, count_by, All}
use Rattle.master_state.specs.declared.states.Limits.{Limits}
use Rattle.master_state.specs.States.{Cluster, Setup}
use Rattle.script_text.specs.declared.script.Command.{Command}
use Rattle.script_text.specs.declared.script.Command.TheVariants as command
use Rattle.script_text.specs.declared.script.Script.{Script}
use Rattle.job_play.specs.Reports.{IsKnownCommand, MayStart, PerformsAll, opening_job}
use Rattle.master_state.specs.Jobs.{Job}
use Rattle.master_state.specs.Steps.{IsLegal}

-- what a command may start: a wave and a plan ahead each split, a backup and a reduce one attempt
abbrev pub starts_many : Command → Bool
starts_many command.Wave = true
starts_many (command.Ahead places) = true
starts_many c = false

abbrev pub starts_one : Command → Bool
starts_one command.Reduce = true
starts_one (command.Backup s w) = true
starts_one c = false

abbrev pub is_sweep : Command → Bool
is_sweep (command.Sweep counts) = true
is_sweep c = false

-- as many attempts as the commands may start, but no more than a master may have
abbrev pub attempts_for : ℕ → List Command → ℕ
attempts_for splits commands = splits * count_by starts_many commands + count_by starts_one commands

abbrev pub limits_for : ℕ → List Command → Limits
limits_for splits commands = record {
  events = length commands;
  attempts = min 1000000 (attempts_for splits commands);
  sweeps = count_by is_sweep commands;
}

-- the job that a script is played on
abbrev pub setup_for : Cluster → Script → Setup
setup_for cluster script = record {
  cluster = cluster;
  limits = limits_for (length cluster.splits) script.commands.items;
}

-- the script names the workers and splits of the cluster, and its commands know no others
pub record IsScriptFor (setup : Setup) (script : Script) : Type 0 where
  pub workers : length script.names.workers ≡ length setup.cluster.slots
  pub splits : length script.names.splits ≡ length setup.cluster.splits
  pub known : All (IsKnownCommand setup) script.commands.items
  pub few : length script.commands.items ≤ 1048576

-- A legal history answers the commands before a wave or a plan ahead, and leaves fewer of the greatest number
-- of attempts than this one may start there.
pub record RunsOut (cluster : Cluster) (script : Script) : Type 0 where
  pub before : List Command
  pub full : Command
  pub later : List Command
  pub commands_are : script.commands.items ≡ before ++ full ∷ later
  pub out : List ℕ
  pub job : Job
  pub legal : IsLegal job.setup job.history job.state
  pub performs : PerformsAll script.names script.target (opening_job (setup_for cluster script)) before out
      job
  pub count : ℕ
  pub may_start : MayStart job full count
  pub too_many : 1000000 < length job.state.starts + count
