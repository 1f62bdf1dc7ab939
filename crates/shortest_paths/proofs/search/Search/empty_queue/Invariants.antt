use Rattle.std.proofs.Common.{◌≡◌, ℕ, ◌+◌, ◌-◌, ◌*◌, [], length}
use Rattle.shortest_paths.specs.Search.{Searches}
use Rattle.shortest_paths.proofs.search.Search.empty_queue.Given as goal

abbrev pub invariant-nodes : goal.invariant-nodes
invariant-nodes g l = record {
  network : l.meter.network ≡ l.fn.meter.network;
  empty : l.self.stack.items ≡ [];
  state : (level : ℕ) × Searches g.L.Layout.node_count l.meter l.query level [] [] l.self;
}

abbrev pub decreases-nodes : goal.decreases-nodes
decreases-nodes g l =
    4 * (2 * length l.fn.meter.network.arcs - l.meter.count) + 2 * length l.self.queue + length
    l.self.stack.items
