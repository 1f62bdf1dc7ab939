use Rattle.network_prices.specs.Layers.{AreStartsTo}
use Rattle.network_prices.proofs.reading.starts_of.Given as goal

abbrev pub invariant-loop-i : goal.invariant-loop-i
invariant-loop-i l = AreStartsTo l.problem l.first l.places l.i l.plan
