-- Starts that the tables of a master allow together.
use Rattle.std.specs.Prelude.{ℕ, ◌≡◌, ◌≢◌, ◌+◌, ◌<◌, ◌≤◌, true, List, length, All, AllPairs, slice_index_or}
use Rattle.worker_table.specs.Workers.{Workers, is_live, taken_slots, worker_at}
use Rattle.master_state.specs.declared.states.SplitState.{SplitState}
use Rattle.master_state.specs.declared.states.SplitState.TheVariants.{Pending}
use Rattle.wave_problem.specs.Assignment.{load}

-- pending splits, each once, on live workers that have slots for all of them
pub record MayStart (workers : Workers) (splits : List SplitState) (pairs : List (ℕ × ℕ)) : Type 0 where
  pub pending : All (λ pair. slice_index_or splits pair.0 Pending ≡ Pending) pairs
  pub known : All (λ pair. pair.0 < length splits) pairs
  pub once : AllPairs (λ one other. one.0 ≢ other.0) pairs
  pub live : All (λ pair. is_live workers pair.1 ≡ true) pairs
  pub free : (w : ℕ) → taken_slots workers w + load pairs w ≤ (worker_at workers w).slots
