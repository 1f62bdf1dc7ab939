use Rattle.std.proofs.Common.{◌≡◌, ◌≤◌, ◌*◌}
use Rattle.wave_problem.specs.declared.TheConstants.{MAX_SLOTS}
use Rattle.wave_problem.specs.Sums.{sum_below}
use Rattle.wave_problem.specs.Wave.{worker_at}
use Rattle.price_certificate.specs.declared.TheConstants.{MAX_PLACE_PRICE}
use Rattle.price_certificate.specs.Places.{places_cost}
use Rattle.price_certificate.proofs.places.PlacePrices.total.Given as goal

abbrev pub invariant-loop-i : goal.invariant-loop-i
invariant-loop-i l =
    (l.total ≡ sum_below l.i (λ w. places_cost l.self w (worker_at l.problem w).free))
    × (l.total ≤ l.i * (MAX_SLOTS * MAX_PLACE_PRICE))
