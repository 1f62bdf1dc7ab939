use Rattle.std.proofs.Common.{◌≡◌, map, take}
use Rattle.wave_arrays.specs.PlacePrices.{place_prices_of}
use Rattle.wave_arrays.proofs.place_rows.lists_of.Given as goal

abbrev pub invariant-loop-row : goal.invariant-loop-row
invariant-loop-row l = map (λ list. list.items) l.lists.items
    ≡ map (place_prices_of l.places.prices.now) (take l.row-index l.places.rows.now)
