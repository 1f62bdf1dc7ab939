-- Fit rows say prices of places.
use Rattle.std.proofs.Common.{◌≤◌, arith, length}
use Rattle.std.specs.Prelude.{All}
use Rattle.std.proofs.lemmas.List.{length-map}
use Rattle.std.proofs.lemmas.List.Elements.{All-map}
use Rattle.rack_tree.specs.declared.TheConstants.{MAX_WORKERS}
use Rattle.price_certificate.specs.Places.{ArePlacePrices, IsFitRow}
use Rattle.wave_arrays.specs.declared.place_rows.PlaceRows.{PlaceRows}
use Rattle.wave_arrays.specs.PlacePrices.{IsPlaceRowFit, place_prices_of, places_in}

pub are_place_prices : (places : PlaceRows) → length places.rows.now ≤ MAX_WORKERS
    → All (IsPlaceRowFit places.prices.now) places.rows.now → ArePlacePrices (places_in places)
are_place_prices places few fit =
    let prices = place_prices_of places.prices.now in
    record {
      few = omega (arith, length-map places.rows.now prices, few);
      each = All-map IsFitRow prices places.rows.now (λ i d lt. (fit i d lt).rising);
    }
