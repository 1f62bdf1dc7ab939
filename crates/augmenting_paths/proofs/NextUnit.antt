-- What a search and a walk ask is there once the next source is lifted.
use Rattle.std.proofs.Common.{◌≡◌, ℕ, List, length, sym, ◌∙◌, arith}
use Rattle.std.specs.Prelude.{slice_index}
use Rattle.flow_network.specs.Flow.{Flow}
use Rattle.flow_network.specs.Flows.{IsNetwork}
use Rattle.shortest_paths.specs.declared.query.Query.{Query}
use Rattle.shortest_paths.specs.Search.{MaySearch}
use Rattle.shortest_paths.proofs.Kept.{kept_are_residual}
use Rattle.augmenting_paths.specs.NextUnit.{MayShipNext, KeepsArcs, HasLiftedNext}
use Rattle.augmenting_paths.proofs.Shipped.{lift_keeps, lifted_depth, start_in}

pub may_search : {L : Type 0} {node_count : L → ℕ} {network : Flow L} {order : List ℕ} {count : ℕ} {q : Query}
    → IsNetwork (node_count network.layout) network.arcs network.flows
    → MayShipNext node_count network order q.sink count
    → length q.potentials.now ≡ node_count network.layout
    → KeepsArcs (node_count network.layout) network.arcs network.flows q.sink q.lists.now
    → HasLiftedNext network.arcs order q.sink count network.flows (slice_index q.potentials.now)
    → q.start ≡ slice_index order count → MaySearch node_count network q
may_search {network = network} limits next size lists lifted start = record {
  priced = record {
    network = limits;
    size = size;
    deep = λ v. (let low = lifted_depth next.can next.left lifted.state _ lifted.up v in
        let limit = next.limit in let left = next.left in omega arith);
    reduced = lift_keeps next.can next.left lifted.state _ lifted.up;
  };
  sized = (let sized = lists.sorted.sized in record {
    sources = sized.sources ∙ sym size;
    sink_arcs = sized.sink_arcs ∙ sym size;
    inner = sized.inner ∙ sym size;
    matched = sized.matched ∙ sym size;
  });
  lists = kept_are_residual _ _ _ _ _ lists.sorted lists.matched;
  sink_apart = lists.sink_apart;
  start_in = (let inside = start_in next.can next.left lifted.state in omega arith);
}
