-- How the residual arcs that leave a node are sorted.
use Rattle.std.specs.Prelude.{◌≡◌, ℕ, ◌+◌, ◌<◌, ◌≤◌, Bool, cond, true, false, List, [], ◌∷◌, ◌++◌, length}
use Rattle.std.specs.Prelude.{slice_index_or, Option, None, ◌⊎◌, Contains}
use Rattle.flow_network.specs.declared.arcs.FlowArc.{FlowArc}
use Rattle.flow_network.specs.declared.arcs.ArcNo.{ArcNo}
use Rattle.flow_network.specs.declared.arcs.ArcNo.TheVariants.{Forward, Reverse}
use Rattle.flow_network.specs.Flows.{arc_at, head_of, leaving_of}
use Rattle.shortest_paths.specs.Lists.{ArcLists, AreSized, source_at, option_arcs}

-- it leads back to a source
abbrev pub LeadsToSource : List FlowArc → List Bool → ArcNo → Type 0
LeadsToSource arcs is_source (Forward k) = ⊥
LeadsToSource arcs is_source (Reverse k) = slice_index_or is_source (arc_at arcs k).from false ≡ true

-- the numbers of the residual arcs that lead back to sources
abbrev pub back_numbers : List FlowArc → List Bool → List ArcNo → List ℕ
back_numbers arcs is_source [] = []
back_numbers arcs is_source (Forward k ∷ all) = back_numbers arcs is_source all
back_numbers arcs is_source (Reverse k ∷ all) =
    cond (slice_index_or is_source (arc_at arcs k).from false) (k ∷ []) [] ++ back_numbers arcs is_source all

-- of some residual arcs one that leads to the sink, if there is one, and all others but those back to sources
pub record AreSortedAt (arcs : List FlowArc) (is_source : List Bool) (sink : ℕ) (all : List ArcNo)
    (sink_arc : Option ℕ)
    (inner : List ArcNo) : Type 0 where
  pub own : (a : ArcNo) → Contains (option_arcs sink_arc ++ inner) a → Contains all a
  pub each : (a : ArcNo) → Contains all a
      → Contains (option_arcs sink_arc ++ inner) a ⊎ LeadsToSource arcs is_source a
  pub leads : (a : ArcNo) → Contains (option_arcs sink_arc) a → head_of arcs a ≡ sink
  pub few : length (option_arcs sink_arc ++ inner) + length (back_numbers arcs is_source all) ≤ length all

-- the lists of each node that is no source, of some of the arcs; at a source none is listed
pub record AreListed (arcs : List FlowArc) (is_source : List Bool) (sink : ℕ) (some : List FlowArc)
    (sink_arcs : List (Option ℕ)) (inner : List (List ArcNo)) : Type 0 where
  pub sorted : (v : ℕ) → slice_index_or is_source v false ≡ false
      → AreSortedAt arcs is_source sink (leaving_of some v) (slice_index_or sink_arcs v None)
      (slice_index_or inner v [])
  pub bare : (v : ℕ) → slice_index_or is_source v false ≡ true
      → (slice_index_or sink_arcs v None ≡ None) × (slice_index_or inner v [] ≡ [])

-- one residual arc more at a node
pub record IsListed (arcs : List FlowArc) (sink v : ℕ) (b : ArcNo) (sink_arcs : List (Option ℕ))
    (inner : List (List ArcNo)) (sink_arcs' : List (Option ℕ)) (inner' : List (List ArcNo)) : Type 0 where
  pub others : (u : ℕ) → (u ≡ v → ⊥) → (slice_index_or sink_arcs' u None ≡ slice_index_or sink_arcs u None)
      × (slice_index_or inner' u [] ≡ slice_index_or inner u [])
  pub here : (is_source : List Bool) (all : List ArcNo)
      → length (back_numbers arcs is_source (b ∷ [])) ≡ 0
      → AreSortedAt arcs is_source sink all (slice_index_or sink_arcs v None) (slice_index_or inner v [])
      → AreSortedAt arcs is_source sink (all ++ b ∷ []) (slice_index_or sink_arcs' v None)
      (slice_index_or inner' v [])

-- the lists of all nodes, whatever the flow; no arc leads to a source
pub record AreSorted (nodes : ℕ) (arcs : List FlowArc) (sink : ℕ) (g : ArcLists) : Type 0 where
  pub sized : AreSized nodes g
  pub no_entry : (k : ℕ) → k < length arcs → source_at g (arc_at arcs k).to ≡ false
  pub listed : AreListed arcs g.is_source sink arcs g.sink_arcs g.inner
