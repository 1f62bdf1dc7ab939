-- What a cluster and a master keep.
use Rattle.std.specs.Prelude.{◌≡◌, ◌≤◌, length, map, vec_capacity}
use Rattle.master_state.specs.States.{Cluster, Setup, State}
use Rattle.master_state.specs.Jobs.{Job, IsKept}
use Rattle.master_state.specs.Steps.{worker_line}
use Rattle.master_core.specs.declared.cluster.Cluster.TheInside as cluster
use Rattle.master_core.specs.declared.master.Master.TheInside.{Inside}
use Rattle.master_core.specs.Clusters.{cluster_from}
use Rattle.master_core.specs.Near.{IsFlagged, IsLined, IsNear}
use Rattle.master_tables.specs.Entries.{shown_as}
use Rattle.master_tables.specs.Kept.{AreOfSplits}

-- the fields of a cluster as contracts see them
abbrev pub cluster_of : cluster.Inside → Cluster
cluster_of c =
    cluster_from c.tree c.slots.items c.splits.items c.texts.items c.parts c.silence c.holder_limit

-- and those of a master
abbrev pub setup_of : Inside → Setup
setup_of m = record { cluster = m.cluster; limits = m.limits }

abbrev pub state_of : Inside → State
state_of m = record {
  workers = m.workers;
  holders = m.holders;
  splits = map shown_as m.splits.items;
  parts = m.parts.items;
  starts = m.starts.items;
  sweeps = m.sweeps.items;
  events = length m.history.items;
}

abbrev pub job_of : Inside → Job
job_of m = record {
  setup = setup_of m;
  history = m.history.items;
  state = state_of m;
  results = m.results.items;
}

-- the lists have room for all that the limits allow, and the sweeps a count for each worker
pub record HasRoom (m : Inside) : Type 0 where
  pub events : m.limits.events ≤ m.history.room
  pub attempts : m.limits.attempts ≤ vec_capacity m.starts
  pub sweeps : m.limits.sweeps ≤ m.sweeps.room
  pub workers : m.sweeps.workers ≡ length m.cluster.slots
  pub results : m.cluster.parts ≤ vec_capacity m.results

-- the engine is near where it says so, and has the flags of all splits and the lines of all workers that
-- were not touched
abbrev pub HasNearEngine : Inside → Type 0
HasNearEngine m = IsNear m.engine m.cluster m.holders m.workers.barred
    × IsFlagged m.engine m.touched (map shown_as m.splits.items)
    × IsLined m.engine m.touched (map worker_line m.workers.each)

-- what every master keeps
pub record IsMaster (m : Inside) : Type 0 where
  pub kept : IsKept (job_of m)
  pub room : HasRoom m
  pub made : AreOfSplits (setup_of m) m.splits.items
  pub near : HasNearEngine m
