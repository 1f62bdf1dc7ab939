use Rattle.std.proofs.Common.{◌≡◌, ◌≤◌, [], ◌-◌, length, take}
use Rattle.flow_network.specs.Flows.{leaving_of}
use Rattle.shortest_paths.specs.Search.{Searches, Spends}
use Rattle.shortest_paths.proofs.search.Search.scan.Given as goal

abbrev pub invariant-loop-i : goal.invariant-loop-i
invariant-loop-i g l = record {
  network : l.meter.network ≡ l.fn.meter.network;
  state : Searches g.L.Layout.node_count l.meter l.query l.level []
      (take (length (leaving_of l.fn.meter.network.arcs l.node) - l.i)
      (leaving_of l.fn.meter.network.arcs l.node)) l.self;
  counted : l.fn.meter.count ≤ l.meter.count;
  spends : Spends 0 l.fn.meter l.fn.self l.meter l.self;
}
