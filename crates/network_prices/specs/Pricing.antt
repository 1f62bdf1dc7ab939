-- The price of a slot, and that of a split by those of the workers.
use Rattle.std.specs.Prelude.{ℕ, ◌≡◌, ◌+◌, ◌-◌, List, slice_index, unwrap_or, Option, Some, None}
use Rattle.wave_problem.specs.Wave.{Wave, cost, reward, IsUsable}
use Rattle.wave_problem.specs.Assignment.{start_of}
use Rattle.network_prices.specs.Ways.{deepest}
use Rattle.network_prices.specs.Networks.{WaveNodes, way_of}

-- of a slot of w: how deep the deepest node on the way up from a usable worker's lies; else nothing
pub record IsSlotPrice (wave : Wave) (nodes : WaveNodes) (h : ℕ → ℕ) (w price : ℕ) : Type 0 where
  pub usable : IsUsable wave.workers w → price ≡ deepest h (way_of nodes w)
  pub unusable : (IsUsable wave.workers w → ⊥) → price ≡ 0

-- of the split s: what its start leaves of the reward, if it starts
pub record IsSplitPrice (wave : Wave) (workers : List ℕ) (starts : List (Option ℕ))
    (s price : ℕ) : Type 0 where
  pub started : (w : ℕ) → start_of starts s ≡ Some w →
      price ≡ reward wave - (slice_index workers w + unwrap_or (cost wave s w) 0)
  pub unstarted : start_of starts s ≡ None → price ≡ 0
