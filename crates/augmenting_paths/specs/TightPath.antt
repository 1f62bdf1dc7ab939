-- Paths over which a unit costs nothing more.
use Rattle.std.specs.Prelude.{ℕ, Bool, IsTrue, List, slice_index}
use Rattle.flow_network.specs.declared.arcs.FlowArc.{FlowArc}
use Rattle.flow_network.specs.declared.arcs.ArcNo.{ArcNo}
use Rattle.flow_network.specs.Flow.{Flow}
use Rattle.flow_network.specs.Flows.{IsPath, IsResidual}
use Rattle.shortest_paths.specs.declared.query.Query.{Query}
use Rattle.shortest_paths.specs.Lowering.{AreTight, IsTight}
use Rattle.shortest_paths.specs.Matched.{GoesOnce}

-- a residual arc that costs nothing
pub record IsTightArc (arcs : List FlowArc) (flows : List ℕ) (h : ℕ → ℕ) (a : ArcNo) : Type 0 where
  pub residual : IsResidual arcs flows a
  pub tight : IsTight arcs h a

-- residual arcs from s to v, none twice, each of which costs nothing under the depths h
pub record IsTightPath (arcs : List FlowArc) (flows : List ℕ) (h : ℕ → ℕ) (s v : ℕ)
    (path : List ArcNo) : Type 0 where
  pub leads : IsPath arcs flows path s v
  pub once : GoesOnce path
  pub tight : AreTight arcs h path

-- where such a path was found from a query's start to its sink, it is this one
abbrev pub FindsTight : {L : Type 0} → Flow L → Query → List ArcNo → Bool → Type 0
FindsTight network q path found = IsTrue found
    → IsTightPath network.arcs network.flows (slice_index q.potentials.now) q.start q.sink path
