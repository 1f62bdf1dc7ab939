-- What the attempts of parts were given to merge.
use Rattle.std.specs.Prelude.{ℕ, ◌≡◌, List, [], length, All, slice_index_or}
use Rattle.std.specs.declared.alloc.Global.{Global}
use Rattle.std.specs.declared.sync.Arc.{Arc}
use Rattle.word_map.specs.Runs.{RunView}
use Rattle.shuffle_reduce.specs.Gather.{AreOfPart, texts_of_runs}
use Rattle.master_state.specs.declared.states.Work.{Work}
use Rattle.master_state.specs.declared.states.Work.TheVariants as work
use Rattle.master_state.specs.States.{Setup}
use Rattle.master_state.specs.Jobs.{Job}

-- the runs of some texts
abbrev pub Runs : Type 0
Runs = List (Arc RunView Global)

-- a run of each text of the job, for this part
pub record AreRunsFor (setup : Setup) (part : ℕ) (runs : Runs) : Type 0 where
  pub of_part : AreOfPart runs part setup.cluster.parts
  pub texts : texts_of_runs runs ≡ setup.cluster.texts

-- the runs that stand in the table for a part
abbrev pub runs_at : List Runs → ℕ → Runs
runs_at table part = slice_index_or table part []

-- a work on a part has its runs in the table
abbrev pub HasRuns : Setup → List Runs → Work → Type 0
HasRuns setup table (work.Split split) = Unit {0}
HasRuns setup table (work.Part part) = AreRunsFor setup part (runs_at table part)

-- the table has a place for each part, with its runs where an attempt was started for it
pub record HoldsRuns (table : List Runs) (job : Job) : Type 0 where
  pub parts : length table ≡ job.setup.cluster.parts
  pub each : All (λ start. HasRuns job.setup table start.work) job.state.starts
