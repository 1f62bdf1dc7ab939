use Rattle.std.proofs.Common.{◌≡◌, ◌+◌, ◌-◌, ◌*◌, [], length}
use Rattle.shortest_paths.specs.Search.{Searches, Spends}
use Rattle.shortest_paths.proofs.search.Search.follow.Given as goal

abbrev pub invariant-turns : goal.invariant-turns
invariant-turns g l = record {
  network : l.meter.network ≡ l.fn.meter.network;
  state : Searches g.L.Layout.node_count l.meter l.query l.level [] [] l.self;
  spends : Spends 0 l.fn.meter l.fn.self l.meter l.self;
}

abbrev pub decreases-turns : goal.decreases-turns
decreases-turns g l = 4 * (2 * length l.fn.meter.network.arcs - l.meter.count) + 2 * length
    l.self.queue + length l.self.stack.items
