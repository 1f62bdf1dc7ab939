-- Ways up from a worker's node to the root, and where the units of the splits come down.
use Rattle.std.specs.Prelude.{◌≡◌, ℕ, ◌<◌, ◌≤◌, max, List, [], ◌∷◌, length, slice_index, ◌⊎◌}
use Rattle.flow_network.specs.declared.arcs.FlowArc.{FlowArc}
use Rattle.flow_network.specs.Flows.{arc_at}
use Rattle.flow_network.specs.Laws.{outroom}

-- the greatest depth on a way
abbrev pub deepest : (ℕ → ℕ) → List ℕ → ℕ
deepest h [] = 0
deepest h (v ∷ way) = max (h v) (deepest h way)

-- An arc without cost leads from u to v and can carry what v can give on. But for the sources, which are the
-- nodes below `sources`, only u leads to v.
pub record IsFed (arcs : List FlowArc) (sources u v : ℕ) : Type 0 where
  pub feed : ℕ
  pub listed : feed < length arcs
  pub from_is : (arc_at arcs feed).from ≡ u
  pub to_is : (arc_at arcs feed).to ≡ v
  pub without_cost : (arc_at arcs feed).cost ≡ 0
  pub whole : (arc_at arcs feed).capacity ≡ outroom arcs v
  pub inner : sources ≤ u
  pub entered : (k : ℕ) → k < length arcs → (arc_at arcs k).to ≡ v
      → ((arc_at arcs k).from < sources) ⊎ (((arc_at arcs k).from ≡ u) × ((arc_at arcs k).cost ≡ 0))

-- a node between the sources and the sink
pub record IsInner (sources sink v : ℕ) : Type 0 where
  pub no_source : sources ≤ v
  pub no_sink : v ≡ sink → ⊥

-- each node of a way is fed by the next, and the last by the sources alone
abbrev pub IsWay : List FlowArc → ℕ → ℕ → List ℕ → Type 0
IsWay arcs sources sink [] = Unit {0}
IsWay arcs sources sink (v ∷ []) = IsInner sources sink v
    × ((k : ℕ) → k < length arcs → (arc_at arcs k).to ≡ v → (arc_at arcs k).from < sources)
IsWay arcs sources sink (v ∷ (u ∷ way)) =
    IsInner sources sink v × IsFed arcs sources u v × IsWay arcs sources sink (u ∷ way)

-- a unit of the node s has come to the node v: the arcs that it took, the last one first
abbrev pub CameFrom : List FlowArc → List ℕ → List ℕ → ℕ → ℕ → Type 0
CameFrom arcs flows [] s v = v ≡ s
CameFrom arcs flows (k ∷ path) s v = (k < length arcs) × (0 < slice_index flows k)
    × ((arc_at arcs k).to ≡ v) × CameFrom arcs flows path s (arc_at arcs k).from
