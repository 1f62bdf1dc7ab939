-- Prices of places: what the split that takes a place on a worker is charged beside its byte-distance.
use Rattle.std.specs.Prelude.{ℕ, ◌≡◌, ◌+◌, ◌-◌, ◌<◌, ◌≤◌, min, List, [], length, slice_index_or, All}
use Rattle.std.specs.List.Sorted.{IsNonDecreasing}
use Rattle.rack_tree.specs.declared.TheConstants.{MAX_WORKERS}
use Rattle.wave_problem.specs.Sums.{sum_below}
use Rattle.wave_problem.specs.Wave.{Wave, reward, worker_at}
use Rattle.wave_problem.specs.Assignment.{IsAssignment, load, total}
use Rattle.price_certificate.specs.declared.TheConstants.{MAX_PLACE_PRICE}

-- prices of places, none of them lower than the one before
pub record IsFitRow (prices : List ℕ) : Type 0 where
  pub small : All (λ price. price ≤ MAX_PLACE_PRICE) prices
  pub rising : IsNonDecreasing prices

-- such prices of each worker
pub record ArePlacePrices (places : List (List ℕ)) : Type 0 where
  pub few : length places ≤ MAX_WORKERS
  pub each : All IsFitRow places

-- the prices of the places of the worker w; one past the last has none
abbrev pub prices_of : List (List ℕ) → ℕ → List ℕ
prices_of places w = slice_index_or places w []

-- the price of the place k of w, the first being 0. A place past the last price costs as much as that, and
-- where there is no price all places are free.
abbrev pub place_price : List (List ℕ) → ℕ → ℕ → ℕ
place_price places w k = slice_index_or (prices_of places w) (min k (length (prices_of places w) - 1)) 0

-- what the first n places of w cost together
abbrev pub places_cost : List (List ℕ) → ℕ → ℕ → ℕ
places_cost places w n = sum_below n (place_price places w)

-- what the places cost that some pairs of a split and a worker take, of each worker the first ones
abbrev pub places_taken : List (List ℕ) → Wave → List (ℕ × ℕ) → ℕ
places_taken places wave pairs = sum_below (length wave.workers) (λ w. places_cost places w (load pairs w))

-- the byte-distance of the pairs and what their places cost
abbrev pub charge : List (List ℕ) → Wave → List (ℕ × ℕ) → ℕ
charge places wave pairs = total wave pairs + places_taken places wave pairs

-- as many starts as in any admissible assignment, at the least charge among those with as many
pub record IsBestByCharge (places : List (List ℕ)) (wave : Wave) (pairs : List (ℕ × ℕ)) : Type 0 where
  pub assignment : IsAssignment wave pairs
  pub most : (other : List (ℕ × ℕ)) → IsAssignment wave other → length other ≤ length pairs
  pub cheapest : (other : List (ℕ × ℕ)) → IsAssignment wave other → length other ≡ length pairs →
      charge places wave pairs ≤ charge places wave other

-- what the places of all free slots cost together
abbrev pub all_places : List (List ℕ) → Wave → ℕ
all_places places wave = sum_below (length places) (λ w. places_cost places w (worker_at wave w).free)

-- the reward and the prices of all places: more than any admissible assignment is charged
abbrev pub full_reward : List (List ℕ) → Wave → ℕ
full_reward places wave = all_places places wave + reward wave

-- of the worker w, with so many slots and starts: its price is at least that of the last place taken, and at
-- most that of the first place left
pub record FitsPlaces (places : List (List ℕ)) (w slots starts price : ℕ) : Type 0 where
  pub taken : 0 < starts → place_price places w (starts - 1) ≤ price
  pub left : starts < slots → price ≤ place_price places w starts
