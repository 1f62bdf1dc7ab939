use Rattle.std.proofs.Common.{◌+◌}
use Rattle.rack_network.specs.Racks.{start}
use Rattle.rack_network.specs.Build.{IsBuilt}
use Rattle.rack_network.proofs.network.add_reaches_at.Given as goal

abbrev pub invariant-loop-i : goal.invariant-loop-i
invariant-loop-i l = IsBuilt l.problem l.split (start l.problem l.level + l.i) l.network
