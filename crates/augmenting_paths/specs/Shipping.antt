-- One unit after the other is shipped from its source to the sink.
use Rattle.std.specs.Prelude.{◌≡◌, ℕ, ◌+◌, ◌*◌, ◌^◌, ◌<◌, ◌≤◌, Bool, true, false, List, length, map}
use Rattle.std.specs.Prelude.{slice_index, slice_index_or, take, Contains, ◌↔◌, count_by, ◌==◌}
use Rattle.std.specs.List.{AllPass}
use Rattle.flow_network.specs.declared.arcs.FlowArc.{FlowArc}
use Rattle.flow_network.specs.Flows.{arc_at, AreArcs, WithinCapacities, NoNegative, inflow, outflow, unit_at}
use Rattle.flow_network.specs.Laws.{flow_cost}

-- how many units are at a node, where each has its place in the list
abbrev pub standing : List ℕ → ℕ → ℕ
standing places v = count_by (λ place. place == v) places

-- an own arc to a node that is no source, and from there an arc to the sink with room for all units
pub record HasPath (arcs : List FlowArc) (sources : List ℕ) (sink s : ℕ) : Type 0 where
  pub out : ℕ
  pub on : ℕ
  pub out_in : out < length arcs
  pub on_in : on < length arcs
  pub leaves : (arc_at arcs out).from ≡ s
  pub meets : (arc_at arcs out).to ≡ (arc_at arcs on).from
  pub arrives : (arc_at arcs on).to ≡ sink
  pub own_room : 0 < (arc_at arcs out).capacity
  pub room : length sources ≤ (arc_at arcs on).capacity

-- what is asked of a network and its sources
pub record CanShip (nodes : ℕ) (arcs : List FlowArc) (sources : List ℕ) (sink : ℕ) : Type 0 where
  pub arcs_in : AreArcs nodes arcs
  pub paths : (k : ℕ) → k < length sources → HasPath arcs sources sink (slice_index sources k)
  pub distinct : (j k : ℕ) → j < length sources → k < length sources → slice_index sources j
      ≡ slice_index sources k → j ≡ k
  pub not_sink : (k : ℕ) → k < length sources → slice_index sources k ≡ sink → ⊥
  pub no_entry : (k j : ℕ) → k < length sources → j < length arcs → (arc_at arcs j).to
      ≡ slice_index sources k → ⊥

-- the first count sources have shipped their units
pub record HasShipped (arcs : List FlowArc) (sources : List ℕ) (sink count : ℕ) (flows : List ℕ)
    (h : ℕ → ℕ) : Type 0 where
  pub sizes : length flows ≡ length arcs
  pub reduced : NoNegative arcs flows h
  pub at_sink : h sink ≡ 0
  pub depth : (v : ℕ) → h v ≤ count * 2 ^ 48
  pub few : (j : ℕ) → slice_index flows j ≤ count
  pub untouched : (k : ℕ) → count ≤ k → k < length sources → h (slice_index sources k) ≡ 0
  pub unused : (k j : ℕ) → count ≤ k → k < length sources → j < length arcs → (arc_at arcs j).from
      ≡ slice_index sources k → slice_index flows j ≡ 0
  pub balance : (w : ℕ) → inflow arcs flows w + standing (take count sources) w
      ≡ outflow arcs flows w + count * unit_at sink w

-- flows within the capacities that bring one unit from each source to the sink
pub record IsShipment (arcs : List FlowArc) (sources : List ℕ) (sink : ℕ) (flows : List ℕ) : Type 0 where
  pub sizes : length flows ≡ length arcs
  pub within : WithinCapacities arcs flows
  pub balance : (w : ℕ) → inflow arcs flows w + standing sources w
      ≡ outflow arcs flows w + length sources * unit_at sink w

-- one of these, and none costs less
pub record IsCheapest (arcs : List FlowArc) (sources : List ℕ) (sink : ℕ) (flows : List ℕ) : Type 0 where
  pub shipment : IsShipment arcs sources sink flows
  pub least : (other : List ℕ) → IsShipment arcs sources sink other → flow_cost arcs flows
      ≤ flow_cost arcs other

-- the depth of a source is no more than its own arcs with room and the depths of their ends allow
pub record IsLifted (arcs : List FlowArc) (h h' : ℕ → ℕ) (s : ℕ) : Type 0 where
  pub others : (v : ℕ) → (v ≡ s → ⊥) → h' v ≡ h v
  pub allowed : (k : ℕ) → k < length arcs → (arc_at arcs k).from ≡ s → 0 < (arc_at arcs k).capacity
      → h' s ≤ (arc_at arcs k).cost + h (arc_at arcs k).to

-- just the indices of the list are marked
abbrev pub AreMarked : List ℕ → List Bool → Type 0
AreMarked sources marks = (v : ℕ) → (slice_index_or marks v false ≡ true) ↔ Contains sources v

-- an arc from the node to the sink with room for so many units
abbrev pub LeadsOn : List FlowArc → ℕ → ℕ → ℕ → Type 0
LeadsOn arcs units sink node = (on : ℕ) × (on < length arcs) × ((arc_at arcs on).from ≡ node)
    × ((arc_at arcs on).to ≡ sink) × (units ≤ (arc_at arcs on).capacity)

-- an arc leads to the node
abbrev pub IsEntered : List FlowArc → ℕ → Type 0
IsEntered arcs node = (j : ℕ) × (j < length arcs) × ((arc_at arcs j).to ≡ node)

-- a source that stands once, is not the sink, and to which no arc leads
pub record IsSource (arcs : List FlowArc) (sources : List ℕ) (sink k : ℕ) : Type 0 where
  pub not_sink : slice_index sources k ≡ sink → ⊥
  pub no_entry : IsEntered arcs (slice_index sources k) → ⊥
  pub first : (j : ℕ) → j < k → slice_index sources j ≡ slice_index sources k → ⊥

abbrev pub AreSources : List FlowArc → List ℕ → ℕ → Type 0
AreSources arcs sources sink = (k : ℕ) → k < length sources → IsSource arcs sources sink k

-- all that is asked before units are shipped
pub record MayShip {X : Type 0} (is_member : X → Bool) (index_of : X → ℕ) (nodes : ℕ) (arcs : List FlowArc)
    (flows : List ℕ) (sources : List X) (sink : X) : Type 0 where
  pub members : AllPass is_member sources
  pub sink_member : is_member sink ≡ true
  pub limit : length sources ≤ 4096
  pub can : CanShip nodes arcs (map index_of sources) (index_of sink)
  pub no_flow : (k : ℕ) → slice_index flows k ≡ 0
