use Rattle.rack_network.specs.Build.{IsBuilt}
use Rattle.rack_network.proofs.network.add_splits.Given as goal

abbrev pub invariant-loop-i : goal.invariant-loop-i
invariant-loop-i l = IsBuilt l.problem l.i 0 l.network
