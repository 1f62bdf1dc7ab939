-- The prices of places that a caller's arrays say, and which of them say some.
use Rattle.std.specs.Prelude.{ℕ, ◌≡◌, ◌+◌, ◌≤◌, List, All, length, map, slice_range}
use Rattle.wave_problem.specs.declared.TheConstants.{MAX_SLOTS}
use Rattle.price_certificate.specs.Places.{IsFitRow}
use Rattle.wave_arrays.specs.declared.place_rows.PlaceRow.{PlaceRow}
use Rattle.wave_arrays.specs.declared.place_rows.PlaceRows.{PlaceRows}

-- the prices of a row, which stand in the array of all prices from a place on
abbrev pub place_prices_of : List ℕ → PlaceRow → List ℕ
place_prices_of prices row = slice_range prices row.first_price (row.first_price + row.price_count)

-- the prices of the places of each worker
abbrev pub places_in : PlaceRows → List (List ℕ)
places_in places = map (place_prices_of places.prices.now) places.rows.now

-- a row has at most as many prices as a worker has slots; they stand in the array of all prices, are small enough,
-- and none is lower than the one before
pub record IsPlaceRowFit (prices : List ℕ) (row : PlaceRow) : Type 0 where
  pub few : row.price_count ≤ MAX_SLOTS
  pub within : row.first_price + row.price_count ≤ length prices
  pub rising : IsFitRow (place_prices_of prices row)

-- there is a row for each of so many workers, and each is fit
pub record ArePlacesFit (workers : ℕ) (places : PlaceRows) : Type 0 where
  pub one_each : length places.rows.now ≡ workers
  pub each : All (IsPlaceRowFit places.prices.now) places.rows.now
