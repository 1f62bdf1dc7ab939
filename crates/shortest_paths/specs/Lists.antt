-- The residual arcs by which a search leaves the nodes. A source is a node that no arc enters; its arcs are
-- the network's list. Any other node has an arc to the sink (looked at when the node is settled), its inner
-- arcs, and the arcs back to its matched sources.
use Rattle.std.specs.Prelude.{◌≡◌, ℕ, ◌<◌, ◌≤◌, Bool, false, List, [], ◌∷◌, ◌++◌, length, map, take}
use Rattle.std.specs.Prelude.{slice_index_or, Option, Some, None, Contains}
use Rattle.flow_network.specs.declared.arcs.FlowArc.{FlowArc}
use Rattle.flow_network.specs.declared.arcs.ArcNo.{ArcNo}
use Rattle.flow_network.specs.declared.arcs.ArcNo.TheVariants.{Forward, Reverse}
use Rattle.flow_network.specs.Flows.{arc_at, arc_index, tail_of, head_of, IsResidual, leaving_of}

pub record ArcLists : Type 0 where
  pub is_source : List Bool
  pub sink_arcs : List (Option ℕ)
  pub inner : List (List ArcNo)
  pub matched : List (List ℕ)

abbrev pub source_at : ArcLists → ℕ → Bool
source_at g v = slice_index_or g.is_source v false

abbrev pub inner_at : ArcLists → ℕ → List ArcNo
inner_at g v = slice_index_or g.inner v []

abbrev pub matched_at : ArcLists → ℕ → List ℕ
matched_at g v = slice_index_or g.matched v []

abbrev pub option_arcs : Option ℕ → List ArcNo
option_arcs None = []
option_arcs (Some k) = Forward k ∷ []

abbrev pub sink_arcs_at : ArcLists → ℕ → List ArcNo
sink_arcs_at g v = option_arcs (slice_index_or g.sink_arcs v None)

-- all but the arc to the sink
abbrev pub stack_arcs : ArcLists → ℕ → List ArcNo
stack_arcs g v = map Reverse (matched_at g v) ++ inner_at g v

-- the first of these, as a cursor leaves them
abbrev pub first_arcs : ArcLists → ℕ → ℕ → List ArcNo
first_arcs g v left = take left (stack_arcs g v)

-- Each residual arc stands where the search looks for it, and no list has more arcs than leave its node.
pub record AreResidualArcs (arcs : List FlowArc) (flows : List ℕ) (sink : ℕ) (g : ArcLists) : Type 0 where
  pub no_entry : (k : ℕ) → k < length arcs → source_at g (arc_at arcs k).to ≡ false
  pub own : (v : ℕ) (a : ArcNo) → Contains (sink_arcs_at g v ++ stack_arcs g v) a
      → (arc_index a < length arcs) × (tail_of arcs a ≡ v)
  pub complete : (a : ArcNo) → IsResidual arcs flows a → source_at g (tail_of arcs a) ≡ false
      → Contains (sink_arcs_at g (tail_of arcs a) ++ stack_arcs g (tail_of arcs a)) a
  pub sink_arcs_lead : (v : ℕ) (a : ArcNo) → Contains (sink_arcs_at g v) a → head_of arcs a ≡ sink
  pub few : (v : ℕ) → length (sink_arcs_at g v ++ stack_arcs g v) ≤ length (leaving_of arcs v)

-- a place for each node
pub record AreSized (nodes : ℕ) (g : ArcLists) : Type 0 where
  pub sources : length g.is_source ≡ nodes
  pub sink_arcs : length g.sink_arcs ≡ nodes
  pub inner : length g.inner ≡ nodes
  pub matched : length g.matched ≡ nodes
