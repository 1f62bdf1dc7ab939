use Rattle.std.proofs.Common.{◌≡◌, ◌≤◌, ◌*◌}
use Rattle.wave_problem.specs.Sums.{sum_below}
use Rattle.wave_problem.specs.Assignment.{load, pairs_of}
use Rattle.price_certificate.specs.Places.{places_cost}
use Rattle.certificate_checker.proofs.checker.Checker.taken_at.Given as goal

abbrev pub invariant-loop-i : goal.invariant-loop-i
invariant-loop-i l =
    (l.total ≡ sum_below l.i (λ w. places_cost l.places w (load (pairs_of l.self.starts) w)))
    × (l.total ≤ 17523466567680 * l.i)
