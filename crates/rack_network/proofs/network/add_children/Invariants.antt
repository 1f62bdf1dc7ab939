use Rattle.std.proofs.Common.{suc}
use Rattle.rack_network.specs.Racks.{node}
use Rattle.rack_network.specs.Build.{IsBuilt}
use Rattle.rack_network.proofs.network.add_children.Given as goal

abbrev pub invariant-loop-i : goal.invariant-loop-i
invariant-loop-i l =
    IsBuilt l.problem (node l.problem (suc l.level) l.number) (node l.problem l.level l.i) l.network
