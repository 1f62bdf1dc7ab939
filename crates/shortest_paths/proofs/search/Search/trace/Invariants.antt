use Rattle.std.proofs.Common.{◌≡◌, ◌++◌, reverse}
use Rattle.shortest_paths.specs.Searching.{LeadsBack, trace_of, trace_to}
use Rattle.shortest_paths.proofs.search.Search.trace.Given as goal

abbrev pub invariant-back : goal.invariant-back
invariant-back l = record {
  back : LeadsBack l.self.arrivals.items l.here l.left;
  path : trace_of l.self.arrivals.items l.here l.left ++ reverse l.path.items
      ≡ trace_to l.self.arrivals.items l.node;
}

abbrev pub decreases-back : goal.decreases-back
decreases-back l = l.left
