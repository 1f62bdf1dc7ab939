-- A search that goes depth first over tight arcs, and closes the nodes that it enters.
use Rattle.std.specs.Prelude.{◌≡◌, ℕ, ◌<◌, Bool, false, true, List, length, get_or}
use Rattle.flow_network.specs.declared.arcs.FlowArc.{FlowArc}
use Rattle.flow_network.specs.declared.arcs.ArcNo.{ArcNo}
use Rattle.flow_network.specs.Flows.{arc_at, arc_index, tail_of, head_of, IsResidual}
use Rattle.shortest_paths.specs.Lowering.{IsTight}
use Rattle.shortest_paths.specs.Matched.{GoesOver}
use Rattle.augmenting_paths.specs.declared.trail.Trail.{Trail}
use Rattle.augmenting_paths.specs.TightPath.{IsTightPath}

-- a place for each of so many nodes
pub record HasNodes (nodes : ℕ) (t : Trail) : Type 0 where
  pub closed : length t.closed.items ≡ nodes
  pub left : length t.left.items ≡ nodes

abbrev pub IsClosed : List Bool → ℕ → Type 0
IsClosed closed v = get_or closed v false ≡ true

-- a residual arc that leaves the node
pub record IsOf (arcs : List FlowArc) (v : ℕ) (a : ArcNo) : Type 0 where
  pub listed : arc_index a < length arcs
  pub from : tail_of arcs a ≡ v

-- an arc with room that costs nothing and leads to an open node
pub record IsOpenArc (arcs : List FlowArc) (flows : List ℕ) (h : ℕ → ℕ) (closed : List Bool)
    (a : ArcNo) : Type 0 where
  pub residual : IsResidual arcs flows a
  pub tight : IsTight arcs h a
  pub fresh : IsClosed closed (head_of arcs a) → ⊥

-- such an arc that leaves the node
pub record GoesOn (arcs : List FlowArc) (flows : List ℕ) (h : ℕ → ℕ) (closed : List Bool) (v : ℕ)
    (a : ArcNo) : Type 0 where
  pub open_arc : IsOpenArc arcs flows h closed a
  pub from : tail_of arcs a ≡ v

-- a path that costs nothing from s to v, all of whose nodes are closed
pub record IsTrail (arcs : List FlowArc) (flows : List ℕ) (h : ℕ → ℕ) (closed : List Bool) (s v : ℕ)
    (path : List ArcNo) : Type 0 where
  pub way : IsTightPath arcs flows h s v path
  pub here : IsClosed closed v
  pub ends : (k : ℕ) → GoesOver k path → IsClosed closed (arc_at arcs k).from
      × IsClosed closed (arc_at arcs k).to
