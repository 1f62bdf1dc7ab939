use Rattle.std.proofs.Common.{◌≡◌, ◌≤◌, ◌*◌}
use Rattle.price_certificate.specs.declared.TheConstants.{MAX_PLACE_PRICE}
use Rattle.price_certificate.specs.Places.{places_cost}
use Rattle.price_certificate.proofs.places.PlacePrices.cost.Given as goal

abbrev pub invariant-loop-place : goal.invariant-loop-place
invariant-loop-place l =
    (l.cost ≡ places_cost l.self l.fn.worker l.place) × (l.cost ≤ l.place * MAX_PLACE_PRICE)
