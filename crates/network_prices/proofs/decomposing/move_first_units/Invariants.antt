use Rattle.network_prices.specs.HandOn.{IsMoving}
use Rattle.network_prices.proofs.decomposing.move_first_units.Given as goal

abbrev pub invariant-loop-i : goal.invariant-loop-i
invariant-loop-i l = IsMoving l.initial.places l.places l.from l.to l.units l.left l.i
