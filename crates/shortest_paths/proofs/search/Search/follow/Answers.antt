use Rattle.std.proofs.Common.{length, ap, arith}
use Rattle.flow_network.specs.Flow.{Flow}
use Rattle.shortest_paths.proofs.Searching.{few_so_far}
use Rattle.shortest_paths.proofs.search.Search.follow.Goals as goal

pub returns-clause-steps : goal.returns-clause-steps
returns-clause-steps g c =
    let few = few_so_far c.turns.invariant.state.now in
    let same = ap (λ (f : Flow g.row.L.Denot). length f.arcs) c.turns.invariant.network in
    omega arith
