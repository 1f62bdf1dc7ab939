-- The matched sources of each node: the arcs of sources into it that carry units.
use Rattle.std.specs.Prelude.{◌≡◌, ℕ, ◌<◌, Bool, true, false, List, [], ◌∷◌, length, Contains, nat_eq}
use Rattle.std.specs.Prelude.{slice_index, slice_index_or, ◌⊎◌, ◌↔◌}
use Rattle.std.specs.List.{IsDistinct}
use Rattle.flow_network.specs.declared.arcs.FlowArc.{FlowArc}
use Rattle.flow_network.specs.declared.arcs.ArcNo.{ArcNo}
use Rattle.flow_network.specs.Flows.{arc_at, arc_index, pushed}
use Rattle.shortest_paths.specs.Lists.{ArcLists, matched_at}

-- an arc of a source to the node
pub record IsOfSource (arcs : List FlowArc) (is_source : List Bool) (v k : ℕ) : Type 0 where
  pub listed : k < length arcs
  pub from_source : slice_index_or is_source (arc_at arcs k).from false ≡ true
  pub ends : (arc_at arcs k).to ≡ v

-- each arc of a source that carries a unit is listed where it ends, once, and no other arc is
pub record AreMatched (arcs : List FlowArc) (flows : List ℕ) (g : ArcLists) : Type 0 where
  pub distinct : (v : ℕ) → IsDistinct nat_eq (matched_at g v)
  pub just : (v k : ℕ) → Contains (matched_at g v) k →
      IsOfSource arcs g.is_source v k × (0 < slice_index flows k)
  pub each : (v k : ℕ) → IsOfSource arcs g.is_source v k → 0 < slice_index flows k →
      Contains (matched_at g v) k

-- a residual arc of the list goes over the arc of this number
abbrev pub GoesOver : ℕ → List ArcNo → Type 0
GoesOver k [] = ⊥
GoesOver k (a ∷ path) = (arc_index a ≡ k) ⊎ GoesOver k path

-- no arc is gone over twice
abbrev pub GoesOnce : List ArcNo → Type 0
GoesOnce [] = Unit {0}
GoesOnce (a ∷ path) = (GoesOver (arc_index a) path → ⊥) × GoesOnce path

-- matched sources of flows that become the last ones as the rest of a path is pushed
pub record IsFollowing (arcs : List FlowArc) (last : List ℕ) (rest : List ArcNo)
    (g : ArcLists) : Type 0 where
  pub flows : List ℕ
  pub rest_is : last ≡ pushed rest flows
  pub once : GoesOnce rest
  pub matched : AreMatched arcs flows g

-- a list of numbers, each of which stands once, with one number less
pub record Leaves (old : List ℕ) (k : ℕ) (new : List ℕ) : Type 0 where
  pub distinct : IsDistinct nat_eq new
  pub members : (j : ℕ) → Contains new j ↔ (Contains old j × (j ≡ k → ⊥))
