-- What lies under the lock, and of which job it is.
use Rattle.std.specs.Prelude.{ℕ, ◌≡◌, ◌≤◌, ◌||◌, Bool, List, Option, Some, None, [], length}
use Rattle.block_map.specs.Copies.{AreCopies, holdings}
use Rattle.block_map.specs.declared.CopyOrder.{CopyOrder}
use Rattle.block_map.specs.declared.HolderLimit.TheVariants.{Eight}
use Rattle.master_state.specs.States.{Setup}
use Rattle.master_state.specs.Jobs.{Job, IsGlance, IsKept}
use Rattle.master_state.specs.Refusals.{has_no_sweep, has_no_room}
use Rattle.master_state.specs.declared.answers.Glance.{Glance}
use Rattle.master_core.specs.Backups.{IsBackupWorker}
use Rattle.hand_ledger.specs.Settling.{LogValue}
use Rattle.shared_master.specs.declared.held.Seen.{Seen}

-- a master, and how many hands were made
pub record HeldValue : Type 0 where
  pub job : Job
  pub made : ℕ

-- a job of nothing, until a run picks its own
abbrev pub nothing : Setup
nothing = record {
  cluster = record {
    tree = record { centres = 0; centre_of = []; rack_of = [] };
    slots = [];
    splits = [];
    texts = [];
    parts = 0;
    silence = 0;
    holder_limit = Eight;
  };
  limits = record { events = 0; attempts = 0; sweeps = 0 };
}

-- a master of this job: it was given just that, and it is as every master is
pub record IsMasterOf (setup : Setup) (job : Job) : Type 0 where
  pub given : job.setup ≡ setup
  pub kept : IsKept job

-- a master of this job shows the glance
abbrev pub IsShownOf : Setup → Glance → Type 0
IsShownOf setup glance = (job : Job) × IsMasterOf setup job × IsGlance job glance

-- the copies that bring each split of the job nearer to the target, in a state of a master of it
abbrev pub AreCopiesOf : Setup → ℕ → List CopyOrder → Type 0
AreCopiesOf setup target orders =
    (job : Job) × IsMasterOf setup job
    × AreCopies (holdings job.state.workers job.setup.cluster.tree job.state.holders target) orders

-- the lowest worker on which a second attempt of the split may start, in a state of a master of this job
abbrev pub IsBackupWorkerOf : Setup → ℕ → Option ℕ → Type 0
IsBackupWorkerOf setup split worker =
    (job : Job) × IsMasterOf setup job × IsBackupWorker job split worker

-- what was seen at a glance would be seen again where no event came since
abbrev pub IsStillSeen : Job → Option Seen → Type 0
IsStillSeen job None = Unit {0}
IsStillSeen job (Some seen) =
    (seen.events ≤ length job.history) × (seen.events ≡ length job.history → IsGlance job seen.glance)

-- what a master tells of the calls that it accepted
abbrev pub log_of : Job → LogValue
log_of job = record { history = job.history; starts = job.state.starts; sweeps = job.state.sweeps }

-- no place for a sweep is left, or no attempt, or fewer attempts than there are splits
abbrev pub is_short : Job → Bool
is_short job =
    has_no_sweep job.setup job.state
    || has_no_room job.setup job.state 1
    || has_no_room job.setup job.state (length job.setup.cluster.splits)
