use Rattle.std.proofs.Common.{◌≤◌}
use Rattle.direct_network.proofs.network.unbarred_splits.Given as goal

abbrev pub invariant-loop-i : goal.invariant-loop-i
invariant-loop-i l = l.count ≤ l.i
