use Rattle.std.proofs.Common.{◌≡◌, length, take}
use Rattle.shortest_paths.specs.Sorted.{AreListed}
use Rattle.shortest_paths.proofs.sorted_arcs.sort_arcs.Given as goal

abbrev pub invariant-loop-k : goal.invariant-loop-k
invariant-loop-k g l = record {
  sink_arcs : length l.sorted.sink_arcs.items ≡ length l.is_source;
  inner : length l.sorted.inner.items ≡ length l.is_source;
  listed : AreListed l.network.arcs l.is_source l.sink (take l.k l.network.arcs) l.sorted.sink_arcs.items
      l.sorted.inner.items;
}
