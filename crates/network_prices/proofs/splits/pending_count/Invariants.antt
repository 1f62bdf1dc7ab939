use Rattle.std.proofs.Common.{◌≡◌, ◌≤◌, length}
use Rattle.network_prices.specs.Pending.{pending_below}
use Rattle.network_prices.proofs.splits.pending_count.Given as goal

abbrev pub invariant-loop-i : goal.invariant-loop-i
invariant-loop-i l = (l.count ≡ length (pending_below l.problem l.i)) × (l.count ≤ l.i)
