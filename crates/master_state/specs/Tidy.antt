-- What every state keeps that a legal history leads to.
use Rattle.std.specs.Prelude.{ℕ, ◌≡◌, ◌≢◌, ◌<◌, ◌≤◌, true, List, length, map, All, AllPairs, Some, count_by}
use Rattle.wave_problem.specs.declared.TheConstants.{MAX_HOLDERS}
use Rattle.worker_table.specs.Workers.{Workers, IsWithin, is_live, taken_slots}
use Rattle.master_state.specs.declared.states.Attempt.{Attempt}
use Rattle.master_state.specs.declared.states.Start.{Start}
use Rattle.master_state.specs.declared.states.Work.{Work}
use Rattle.master_state.specs.declared.states.Work.TheVariants as works
use Rattle.master_state.specs.declared.states.SplitState.TheVariants.{Running, Done}
use Rattle.master_state.specs.States.{Setup, State, next_attempt, start_of}
use Rattle.master_state.specs.Tests.{is_on, attempts_of, part_attempts, all_running, split_at, part_at}

-- few live workers, each once
pub record AreHolders (workers : Workers) (holders : List ℕ) : Type 0 where
  pub few : length holders ≤ MAX_HOLDERS
  pub once : AllPairs (λ a b. a ≢ b) holders
  pub live : All (λ h. is_live workers h ≡ true) holders

-- the attempt was started for this work, on the worker on which it runs
abbrev pub IsToldAs : State → Work → Attempt → Type 0
IsToldAs s work attempt = start_of s attempt.number ≡ Some (record { work = work; worker = attempt.worker })

-- the work is a split or a part of the cluster
abbrev pub IsWorkOf : Setup → Work → Type 0
IsWorkOf setup (works.Split split) = split < length setup.cluster.splits
IsWorkOf setup (works.Part r) = r < setup.cluster.parts

-- the start is of this cluster's work, on one of its workers
pub record IsStartOf (setup : Setup) (start : Start) : Type 0 where
  pub work : IsWorkOf setup start.work
  pub worker : start.worker < length setup.cluster.slots

pub record IsTidy (setup : Setup) (s : State) : Type 0 where
  -- the sizes are those of the cluster, and no room is passed
  pub slots : map (λ worker. worker.slots) s.workers.each ≡ setup.cluster.slots
  pub limit : s.workers.limit ≡ setup.cluster.silence
  pub bars : length s.workers.barred.rows ≡ length setup.cluster.splits
  pub holders : length s.holders ≡ length setup.cluster.splits
  pub splits : length s.splits ≡ length setup.cluster.splits
  pub parts : length s.parts ≡ setup.cluster.parts
  pub events : s.events ≤ setup.limits.events
  pub attempts : length s.starts ≤ setup.limits.attempts
  pub sweeps : length s.sweeps ≤ setup.limits.sweeps
  -- the tables agree with one another
  pub held : All (AreHolders s.workers) s.holders
  pub within : All (IsWithin s.workers.limit) s.workers.each
  pub taken : (w : ℕ) → taken_slots s.workers w ≡ count_by (is_on w) (all_running s)
  -- what runs, runs on live workers, by numbers that were given, each at one place only
  pub live : All (λ attempt. is_live s.workers attempt.worker ≡ true) (all_running s)
  pub given : All (λ attempt. attempt.number < next_attempt s) (all_running s)
  pub once : AllPairs (λ a b. a.number ≢ b.number) (all_running s)
  pub apart : (split : ℕ) (a b : Attempt) → split_at s split ≡ Running a (Some b) → a.worker ≢ b.worker
  -- the starts are of the cluster, and tell of each attempt what it runs, and of a done one what it did
  pub known : All (IsStartOf setup) s.starts
  pub told : (split : ℕ) → All (IsToldAs s (works.Split split)) (attempts_of (split_at s split))
  pub told_parts : (r : ℕ) → All (IsToldAs s (works.Part r)) (part_attempts (part_at s r))
  pub told_done : (split : ℕ) (a : Attempt) → split_at s split ≡ Done a → IsToldAs s (works.Split split) a
