-- What running a job answers to its text.
use Rattle.std.specs.Prelude.{ℕ, ◌+◌, ◌*◌, max, min, Bool, List, [], ◌++◌, ◌≡◌, Option, Ok, Err}
use Rattle.std.specs.Prelude.{if◌then◌else◌, length}
use Rattle.std.specs.declared.result.Result.{Result}
use Rattle.text_lines.specs.declared.fault.TextFault.{TextFault}
use Rattle.line_rules.specs.Known.{Known}
use Rattle.line_rules.specs.Reading.{IsAllRead}
use Rattle.line_rules.specs.declared.purpose.Purpose.TheVariants.{Running}
use Rattle.command_runner.specs.declared.tool_error.ToolError.{ToolError}
use Rattle.line_rules.specs.Faulty.{IsFaulty}
use Rattle.script_text.specs.declared.heads.Head.{Head}
use Rattle.master_state.specs.Jobs as master
use Rattle.master_state.specs.States.{Cluster, Setup}
use Rattle.master_state.specs.declared.states.Limits.{Limits}
use Rattle.script_text.specs.Scripts.{Declares}
use Rattle.script_text.specs.declared.script.Names.{Names}
use Rattle.script_text.specs.declared.script.Script.{Script}
use Rattle.report_lines.specs.History.{history_lines}
use Rattle.report_lines.specs.Lines.{stuck_lines}
use Rattle.job_threads.specs.Outcomes.{IsDoneOn, IsStuckWith}
use Rattle.job_threads.specs.declared.job.Job.{Job}
use Rattle.job_threads.specs.declared.outcome.Record.{Record}
use Rattle.job_threads.specs.declared.outcome.RunError.{RunError}
use Rattle.job_play.specs.PlayAnswer.{cluster_in, declared_cluster}
use Rattle.job_play.specs.Reports.{TellsIndex}
use Rattle.job_run.specs.declared.running.JobEnd.{JobEnd}
use Rattle.job_run.specs.declared.running.JobEnd.TheVariants as job
use Rattle.job_run.specs.declared.running.RunEnd.{RunEnd}
use Rattle.job_run.specs.declared.running.RunEnd.TheVariants as finish
use Rattle.job_run.specs.declared.running.RunTextError.{RunTextError}
use Rattle.job_run.specs.declared.running.RunTextError.TheVariants as error

-- the room of a run with so many splits and parts: for eight events and eight attempts of each, for 65,536 at
-- least, and for no more than a master may have
abbrev pub run_room : ℕ → Limits
run_room tasks =
    let each = max 65536 (8 * tasks) in
    record { events = min 1048576 each; attempts = min 1000000 each; sweeps = 16384 }

-- a cluster with the job that is run on it
abbrev pub setup_on : Cluster → Setup
setup_on cluster =
    record { cluster = cluster; limits = run_room (length cluster.splits + cluster.parts) }

-- the lines with which a run of this job ends so, of a master that has done all its parts or is stuck with it
abbrev pub TellsEnd : Setup → Names → master.Job → RunEnd → List ℕ → Type 0
TellsEnd given names last finish.Done out =
    IsDoneOn given last × TellsIndex given.cluster.texts names.documents out
TellsEnd given names last finish.Stuck out =
    IsStuckWith given last × (out ≡ stuck_lines names.splits last.state.splits)

-- the lines of all that was done to the master
abbrev pub done_lines : Names → master.Job → List ℕ
done_lines names last =
    history_lines names.splits names.workers last.state.starts last.state.sweeps last.history

-- the lines of a run: of all that was done, where that is asked for, and of how it ended
pub record TellsRun
    (given : Setup) (names : Names) (asked : Bool) (end : RunEnd) (out : List ℕ)
    : Type 0 where
  pub last : master.Job
  pub ending : List ℕ
  pub kept : master.IsKept last
  pub ends : TellsEnd given names last end ending
  pub out_is : out ≡ (if asked then done_lines names last else []) ++ ending

-- a job that has no outcome has no lines
abbrev pub TellsJob : Setup → Names → Bool → JobEnd → List ℕ → Type 0
TellsJob given names asked (job.Ran end) out = TellsRun given names asked end out
TellsJob given names asked (job.Broken why) out = out ≡ []

-- a run is told as one where it has a record, and else by its error
abbrev pub IsToldAs : Result Record RunError → JobEnd → Type 0
IsToldAs (Ok ran) (job.Ran end) = Unit {0}
IsToldAs (Err e) (job.Broken why) = why ≡ e
IsToldAs ended told = ⊥

-- the lines tell how the job ended that the text declares
pub record RunsRead (asked : Bool) (text : List ℕ) (end : JobEnd) (lines : List ℕ) : Type 0 where
  pub known : Known
  pub script : Script
  pub read : IsAllRead Running text known
  pub declares : Declares known script
  pub tells : TellsJob (setup_on (declared_cluster known)) script.names asked end lines

-- the lines with which running ends so, without or with all that was done
abbrev pub RunAnswer : Bool → List ℕ → Result JobEnd TextFault → List ℕ → Type 0
RunAnswer asked text (Ok end) lines = RunsRead asked text end lines
RunAnswer asked text (Err fault) line = IsFaulty Running text fault line

-- the end of a run as that of its command
abbrev pub ran_as : Result RunEnd RunTextError → Result JobEnd ToolError
ran_as (Ok end) = Ok (job.Ran end)
ran_as (Err (error.Tool why)) = Err why
ran_as (Err (error.Run why)) = Ok (job.Broken why)

-- the job of a head, with the room that a run has
abbrev pub job_in : Head → ℕ → Option ℕ → Job
job_in head target ahead = record {
  cluster = cluster_in head;
  target = target;
  limits = (setup_on (cluster_in head)).limits;
  ahead = ahead;
}

-- the split of each text of the master has a name
abbrev pub HasTextsNamed : Names → Record → Type 0
HasTextsNamed names ran = length names.splits ≡ length ran.master.setup.cluster.texts
