use Rattle.std.proofs.Common.{ℕ, ◌<◌}
use Rattle.node_ids.specs.Sets.{HasPair}
use Rattle.rack_network.proofs.network.has_bars.Given as goal

abbrev pub invariant-loop-i : goal.invariant-loop-i
invariant-loop-i l = (w : ℕ) → w < l.i → HasPair l.problem.barred l.split w → ⊥
