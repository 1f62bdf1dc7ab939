use Rattle.std.proofs.Common.{◌+◌, ◌*◌, length}
use Rattle.direct_network.specs.Build.{IsBuilt}
use Rattle.direct_network.proofs.network.add_workers.Given as goal

abbrev pub invariant-loop-i : goal.invariant-loop-i
invariant-loop-i l =
    IsBuilt l.problem (length l.problem.splits + l.i) 0 (257 * length l.problem.splits + l.i) l.network
