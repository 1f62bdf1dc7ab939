use Rattle.rack_network.specs.Racks.{node}
use Rattle.rack_network.specs.Build.{IsBuilt}
use Rattle.rack_network.proofs.network.add_slots.Given as goal

abbrev pub invariant-loop-i : goal.invariant-loop-i
invariant-loop-i l = IsBuilt l.problem (node l.problem 0 l.i) 0 l.network
