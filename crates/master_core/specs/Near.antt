-- What an engine that is kept from wave to wave has of the master's present state.
use Rattle.std.specs.Prelude.{ℕ, ◌≡◌, ◌≢◌, ◌<◌, ◌⊎◌, Bool, IsTrue, false, List, length, map, slice_index_or}
use Rattle.std.specs.List.{Contains}
use Rattle.wave_problem.specs.declared.lines.WorkerLine.{WorkerLine}
use Rattle.wave_problem.specs.Wave.{Wave, split_at, worker_at, worker_in}
use Rattle.worker_table.specs.Bars.{Bars}
use Rattle.tree_flow.specs.declared.nodes.Place.TheVariants.{Unshipped}
use Rattle.tree_flow.specs.State.{place_of}
use Rattle.tree_planner.specs.Shown.{state_in, Shown}
use Rattle.master_state.specs.declared.states.SplitState.{SplitState}
use Rattle.master_state.specs.States.{Cluster}
use Rattle.master_state.specs.Tests.{is_pending}
use Rattle.master_tables.specs.declared.entries.SplitEntry.{SplitEntry}
use Rattle.master_tables.specs.Entries.{shown_as}
use Rattle.master_tables.specs.Lines.{split_lines}
use Rattle.master_core.specs.declared.kept.Kept.{Kept}
use Rattle.master_core.specs.declared.kept.Kept.TheVariants.{None, Near, Far}
use Rattle.master_core.specs.declared.touched.Touched.{Touched}

-- the wave has the cluster's tree and bytes, these holders and these barred pairs, in some states
-- of the splits
pub record HasPlaces (wave : Wave) (cluster : Cluster) (holders : List (List ℕ)) (barred : Bars)
    : Type 0 where
  pub tree : wave.tree ≡ cluster.tree
  pub states : List SplitState
  pub sizes : length states ≡ length cluster.splits
  pub splits : wave.splits ≡ split_lines cluster.splits states holders
  pub barred_are : wave.barred ≡ barred.rows

-- an engine that is near stands for such a wave; of one that is far nothing is known
abbrev pub IsNear : Kept → Cluster → List (List ℕ) → Bars → Type 0
IsNear None cluster holders barred = Unit {0}
IsNear (Near engine) cluster holders barred = HasPlaces engine.wave cluster holders barred
IsNear (Far engine) cluster holders barred = Unit {0}

-- the split was touched
abbrev pub IsTouched : Touched → ℕ → Type 0
IsTouched touched s = IsTrue touched.any ⊎ Contains touched.splits.items s

-- and so of a worker
abbrev pub IsWorkerTouched : Touched → ℕ → Type 0
IsWorkerTouched touched w = IsTrue touched.any ⊎ Contains touched.workers.items w

-- what was touched before still is
pub record StaysTouched (old new : Touched) : Type 0 where
  pub splits : (s : ℕ) → IsTouched old s → IsTouched new s
  pub workers : (w : ℕ) → IsWorkerTouched old w → IsWorkerTouched new w

-- each split of the wave is pending where it is in these states, unless it was touched
abbrev pub HasFlags : Wave → Touched → List SplitState → Type 0
HasFlags wave touched states = (s : ℕ) → s < length wave.splits →
    IsTouched touched s ⊎ ((split_at wave s).pending ≡ slice_index_or (map is_pending states) s false)

-- and so it is in the wave of an engine that is near
abbrev pub IsFlagged : Kept → Touched → List SplitState → Type 0
IsFlagged None touched states = Unit {0}
IsFlagged (Near engine) touched states = HasFlags engine.wave touched states
IsFlagged (Far engine) touched states = Unit {0}

-- each worker of the wave has its line of these, unless it was touched
abbrev pub HasLines : Wave → Touched → List WorkerLine → Type 0
HasLines wave touched lines = (w : ℕ) → IsWorkerTouched touched w ⊎ (worker_at wave w ≡ worker_in lines w)

-- and so it is in the wave of an engine that is near
abbrev pub IsLined : Kept → Touched → List WorkerLine → Type 0
IsLined None touched lines = Unit {0}
IsLined (Near engine) touched lines = HasLines engine.wave touched lines
IsLined (Far engine) touched lines = Unit {0}

-- which of these splits are pending
abbrev pub flags_of : List SplitEntry → List Bool
flags_of entries = map is_pending (map shown_as entries)

-- each split of an engine is shipped
abbrev pub IsSettled : Shown → Type 0
IsSettled engine = (s : ℕ) → s < length engine.wave.splits → place_of (state_in engine) s ≢ Unshipped
