-- Splits as a wave sees them, and which may start where.
use Rattle.std.specs.Prelude.{◌≡◌, ◌&&◌, ℕ, Bool, false, IsTrue, List, map, zip}
use Rattle.std.specs.List.{list_any}
use Rattle.wave_problem.specs.Wave.{Split}
use Rattle.worker_table.specs.Workers.{has_free_slot, is_barred, is_live, worker_at, Workers}
use Rattle.master_state.specs.declared.states.SplitState.{SplitState}
use Rattle.master_state.specs.Steps.{split_line}
use Rattle.master_state.specs.Tests.{is_pending}

-- the splits of a cluster, with their states and their holders
abbrev pub split_lines : List Split → List SplitState → List (List ℕ) → List Split
split_lines splits states lists =
    map (λ line. split_line line.0.0 line.0.1 line.1) (zip (zip splits states) lists)

-- a split in this state, with these holders, is pending and has a live holder
abbrev pub is_open : Workers → SplitState → List ℕ → Bool
is_open t state holders = is_pending state && list_any (is_live t) holders

-- the worker w has a free slot, and its pair with the split is not barred
abbrev pub Takes : Workers → ℕ → ℕ → Type 0
Takes t split w = IsTrue (has_free_slot (worker_at t w)) × (is_barred t split w ≡ false)
