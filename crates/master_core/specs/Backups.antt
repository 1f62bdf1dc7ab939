-- On which worker a second attempt of a split may start.
use Rattle.std.specs.Prelude.{ℕ, ◌≡◌, ◌<◌, ◌&&◌, not, Bool, true, false, Option, Some, None, length}
use Rattle.worker_table.specs.Workers.{has_free_slot, is_barred, worker_at}
use Rattle.master_state.specs.declared.states.SplitState.{SplitState}
use Rattle.master_state.specs.declared.states.SplitState.TheVariants.{Running}
use Rattle.master_state.specs.States.{State}
use Rattle.master_state.specs.Jobs.{Job}
use Rattle.master_state.specs.Refusals.{Backup, refusal, takes_backup}
use Rattle.master_state.specs.Tests.{split_at}

-- the lowest number below n of which it holds, if there is one
abbrev pub IsLowestBelow : ℕ → (ℕ → Type 0) → Option ℕ → Type 0
IsLowestBelow n P None = (w : ℕ) → w < n → P w → ⊥
IsLowestBelow n P (Some w) = (w < n) × P w × ((v : ℕ) → v < w → P v → ⊥)

-- the lowest worker on which a second attempt of the split may start
abbrev pub IsBackupWorker : Job → ℕ → Option ℕ → Type 0
IsBackupWorker job split worker =
    IsLowestBelow (length job.setup.cluster.slots)
    (λ w. refusal job.setup job.state (Backup split w) ≡ None) worker

-- one attempt alone runs the split
abbrev pub runs_once : SplitState → Bool
runs_once (Running attempt None) = true
runs_once split = false

-- the worker has a free slot, is not barred from the split, and another worker alone runs that
abbrev pub is_spare : State → ℕ → ℕ → Bool
is_spare s split w =
    takes_backup w (split_at s split)
    && (has_free_slot (worker_at s.workers w) && not (is_barred s.workers split w))
