-- What a job is given, and what the calls of its master change.
use Rattle.std.specs.Prelude.{ℕ, ◌≡◌, ◌+◌, ◌≤◌, zero, suc, List, [], length, map, replicate, All, Option}
use Rattle.std.specs.Prelude.{None, slice_get}
use Rattle.std.specs.List.{range_with_len}
use Rattle.std.specs.Option.{option_map_or}
use Rattle.rack_tree.specs.Tree.{Tree}
use Rattle.rack_tree.specs.View as tree
use Rattle.wave_problem.specs.declared.TheConstants.{MAX_SLOTS}
use Rattle.wave_problem.specs.Wave.{Split, IsSmall, AreHeldWell}
use Rattle.block_map.specs.declared.HolderLimit.{HolderLimit}
use Rattle.word_map.specs.Texts.{SplitDocuments}
use Rattle.worker_table.specs.Workers.{Workers, opening_workers}
use Rattle.master_state.specs.declared.TheConstants.{MAX_JOB_SPLITS, MAX_JOB_WORKERS}
use Rattle.master_state.specs.declared.states.Limits.{Limits}
use Rattle.master_state.specs.declared.states.Start.{Start}
use Rattle.master_state.specs.declared.states.SplitState.{SplitState}
use Rattle.master_state.specs.declared.states.SplitState.TheVariants.{Pending}
use Rattle.master_state.specs.declared.states.PartState.{PartState}
use Rattle.master_state.specs.declared.states.PartState.TheVariants as part

-- the job that is to be done, and where
pub record Cluster : Type 0 where
  pub tree : Tree  -- the racks, and the rack of each worker
  pub slots : List ℕ  -- of each worker
  pub splits : List Split  -- the bytes of each, and its holders at first
  pub texts : List SplitDocuments  -- of each split
  pub parts : ℕ  -- how many there are
  pub silence : ℕ  -- the sweeps without a new beat after which a worker is dead
  pub holder_limit : HolderLimit  -- to how many holders a split may grow

-- what no call changes
pub record Setup : Type 0 where
  pub cluster : Cluster
  pub limits : Limits

-- what the calls change
pub record State : Type 0 where
  pub workers : Workers  -- live, slots, taken, beat and silence of each, and the barred pairs
  pub holders : List (List ℕ)  -- of each split
  pub splits : List SplitState
  pub parts : List PartState
  pub starts : List Start  -- every attempt that was made, the first one first
  pub sweeps : List (List ℕ)  -- of every sweep, the count of each worker
  pub events : ℕ  -- how many there were

-- all workers live, all splits and parts pending, nothing barred
abbrev pub opening : Setup → State
opening setup = record {
  workers = opening_workers setup.cluster.slots (length setup.cluster.splits) setup.cluster.silence
      setup.limits.events;
  holders = map (λ split. split.holders) setup.cluster.splits;
  splits = map (λ _. Pending) setup.cluster.splits;
  parts = replicate setup.cluster.parts part.Pending;
  starts = [];
  sweeps = [];
  events = 0;
}

-- the number that the next attempt gets
abbrev pub next_attempt : State → ℕ
next_attempt s = length s.starts + 1

-- what the attempt a was started for, and where
abbrev pub start_of : State → ℕ → Option Start
start_of s zero = None
start_of s (suc a) = slice_get s.starts a

-- the worker that it was started on
abbrev pub worker_of : State → ℕ → ℕ
worker_of s a = option_map_or (λ start. start.worker) (start_of s a) 0

-- The cluster keeps to the limits. Each worker has its rack and its slots, each split its text at its place,
-- and the first holders of a split are workers, each once.
pub record IsWhole (c : Cluster) : Type 0 where
  pub tree : tree.IsWithinLimits c.tree
  pub racks : length c.tree.rack_of ≡ length c.slots
  pub few_workers : length c.slots ≤ MAX_JOB_WORKERS
  pub slots : All (λ n. n ≤ MAX_SLOTS) c.slots
  pub few_splits : length c.splits ≤ MAX_JOB_SPLITS
  pub small : All IsSmall c.splits
  pub held : AreHeldWell (length c.slots) c.splits
  pub texts : map (λ text. text.split) c.texts ≡ range_with_len 0 (length c.splits)
  pub some_parts : 1 ≤ c.parts
  pub few_parts : c.parts ≤ 64
  pub silence : 1 ≤ c.silence

-- the rooms that a master may have
pub record AreAllowed (limits : Limits) : Type 0 where
  pub events : limits.events ≤ 1048576
  pub attempts : limits.attempts ≤ 1000000
  pub sweeps : limits.sweeps ≤ limits.events
