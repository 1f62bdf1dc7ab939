use Rattle.std.proofs.Common.{◌≡◌, ◌≤◌, length, map}
use Rattle.std.specs.List.{AllPass}
use Rattle.network_prices.specs.Pending.{pending_below}
use Rattle.network_prices.proofs.planning.pending_nodes.Given as goal

abbrev pub invariant-loop-i : goal.invariant-loop-i
invariant-loop-i g l =
    (map (g.L.Layout.index_of l.network.layout) l.nodes.items ≡ pending_below l.problem l.i)
    × AllPass (g.L.Layout.is_member l.network.layout) l.nodes.items × (length l.nodes.items ≤ l.i)
