use Rattle.std.proofs.Common.{◌+◌, ◌*◌}
use Rattle.direct_network.specs.Build.{IsBuilt}
use Rattle.direct_network.specs.Direct.{worker_node}
use Rattle.direct_network.proofs.network.add_pairs.Given as goal

abbrev pub invariant-loop-i : goal.invariant-loop-i
invariant-loop-i l = IsBuilt l.problem l.split (worker_node l.problem l.i) (257 * l.split + l.i) l.network
