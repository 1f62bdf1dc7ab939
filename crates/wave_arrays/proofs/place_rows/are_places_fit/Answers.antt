use Rattle.wave_arrays.specs.PlacePrices.{IsPlaceRowFit}
use Rattle.wave_arrays.proofs.Unfit.{none_unfit}
use Rattle.wave_arrays.proofs.place_rows.are_places_fit.Goals as goal

pub returns-then-places-workers : goal.returns-then-places-workers
returns-then-places-workers c =
    let places = c.args.places.now in
    let each = none_unfit (IsPlaceRowFit places.prices.now) places.rows.now c.unfit_place_row.result
    c.is_none.result c.unfit_place_row.ensures c.is_none.ensures in
    (λ none. record { one_each = c.if-places-workers.true; each = each.0 none }, λ fit. each.1 fit.each)
