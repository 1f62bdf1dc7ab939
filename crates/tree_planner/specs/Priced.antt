-- The prices of one worker and of one split.
use Rattle.std.specs.Prelude.{ℕ, ◌≡◌, ◌+◌, ◌-◌, List, Option, Some, None, slice_index, unwrap_or}
use Rattle.wave_problem.specs.Assignment.{start_of}
use Rattle.wave_problem.specs.Wave.{Wave, cost, IsUsable}
use Rattle.tree_flow.specs.Settled.{deepest_above}
use Rattle.tree_flow.specs.State.{State}

-- the deepest node above a worker, where it lives and has a slot
pub record IsWorkerPrice (wave : Wave) (state : State) (w price : ℕ) : Type 0 where
  pub usable : IsUsable wave.workers w → price ≡ deepest_above wave.tree state w
  pub unusable : (IsUsable wave.workers w → ⊥) → price ≡ 0

abbrev pub AreWorkerPrices : Wave → State → List ℕ → Type 0
AreWorkerPrices wave state prices = (w : ℕ) → IsWorkerPrice wave state w (slice_index prices w)

-- what its worker's price and its cost leave of what a start is worth
pub record IsSplitPrice (wave : Wave) (worth : ℕ) (starts : List (Option ℕ)) (workers : List ℕ) (s price : ℕ)
    : Type 0 where
  pub started : (w : ℕ) → start_of starts s ≡ Some w
      → price ≡ worth - (slice_index workers w + unwrap_or (cost wave s w) 0)
  pub unstarted : start_of starts s ≡ None → price ≡ 0
