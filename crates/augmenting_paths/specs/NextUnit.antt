-- What is kept from unit to unit, and the steps of the next one.
use Rattle.std.specs.Prelude.{◌≡◌, ℕ, ◌+◌, ◌*◌, ◌^◌, ◌<◌, ◌≤◌, false, List, length, slice_index}
use Rattle.flow_network.specs.declared.arcs.FlowArc.{FlowArc}
use Rattle.flow_network.specs.declared.arcs.ArcNo.{ArcNo}
use Rattle.flow_network.specs.Flow.{Flow}
use Rattle.flow_network.specs.Flows.{NoNegative, IsNetwork}
use Rattle.shortest_paths.specs.Lists.{ArcLists, source_at}
use Rattle.shortest_paths.specs.Matched.{AreMatched}
use Rattle.shortest_paths.specs.Sorted.{AreSorted}
use Rattle.augmenting_paths.specs.declared.augment.Shipping.{Shipping}
use Rattle.augmenting_paths.specs.Shipping.{CanShip, HasShipped, IsLifted}
use Rattle.augmenting_paths.specs.TightPath.{IsTightPath}
use Rattle.augmenting_paths.specs.DepthFirst.{HasNodes}

-- so many sources of the order have shipped, and one has not
pub record MayShipNext {L : Type 0} (node_count : L → ℕ) (network : Flow L) (order : List ℕ)
    (sink count : ℕ) : Type 0 where
  pub limit : length order ≤ 4096
  pub left : count < length order
  pub can : CanShip (node_count network.layout) network.arcs order sink

-- the lists of arcs and the lists of a flow, over a network to whose sink units are shipped
pub record KeepsArcs (nodes : ℕ) (arcs : List FlowArc) (flows : List ℕ) (sink : ℕ)
    (g : ArcLists) : Type 0 where
  pub sorted : AreSorted nodes arcs sink g
  pub matched : AreMatched arcs flows g
  pub sink_apart : source_at g sink ≡ false

-- what is kept fits the network; the searches looked at each arc at most twice for each unit
pub record AreKept {L : Type 0} (node_count : L → ℕ) (network : Flow L) (sink count : ℕ)
    (s : Shipping) : Type 0 where
  pub limits : IsNetwork (node_count network.layout) network.arcs network.flows
  pub looks : s.looks ≤ count * (2 * length network.arcs)
  pub size : length s.potentials ≡ node_count network.layout
  pub buffers : s.buffers ≡ node_count network.layout
  pub trail : HasNodes (node_count network.layout) s.trail
  pub lists : KeepsArcs (node_count network.layout) network.arcs network.flows sink s.lists

-- the next source is lifted
pub record HasLiftedNext (arcs : List FlowArc) (sources : List ℕ) (sink count : ℕ) (flows : List ℕ)
    (h' : ℕ → ℕ) : Type 0 where
  pub h : ℕ → ℕ
  pub state : HasShipped arcs sources sink count flows h
  pub up : IsLifted arcs h h' (slice_index sources count)

-- the depths are those under which the next source has a path that costs nothing
pub record HasFoundNext (arcs : List FlowArc) (sources : List ℕ) (sink count : ℕ) (flows : List ℕ)
    (h' : ℕ → ℕ) (path : List ArcNo) : Type 0 where
  pub h : ℕ → ℕ
  pub state : HasShipped arcs sources sink count flows h
  pub reduced : NoNegative arcs flows h'
  pub at_sink : h' sink ≡ 0
  pub depth : (v : ℕ) → h' v ≤ (count + 1) * 2 ^ 48
  pub untouched : (k : ℕ) → count + 1 ≤ k → k < length sources → h' (slice_index sources k) ≡ 0
  pub way : IsTightPath arcs flows h' (slice_index sources count) sink path
