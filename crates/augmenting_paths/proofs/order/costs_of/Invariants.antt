use Rattle.std.proofs.Common.{◌≡◌, length}
use Rattle.augmenting_paths.proofs.order.costs_of.Given as goal

abbrev pub invariant-loop-arc : goal.invariant-loop-arc
invariant-loop-arc g l = length l.costs.items ≡ g.L.Layout.node_count l.network.layout
