-- What the network's laws say.
use Rattle.std.specs.Prelude.{◌≡◌, ℕ, ◌+◌, ◌*◌, ◌<◌, ◌≤◌, List, [], ◌∷◌, length, cond, ◌==◌, slice_index, take}
use Rattle.flow_network.specs.declared.arcs.FlowArc.{FlowArc}
use Rattle.flow_network.specs.declared.arcs.ArcNo.{ArcNo}
use Rattle.flow_network.specs.Flows.{arc_at, AreArcs, WithinCapacities, IsPath, IsDistinct, pushed, inflow}
use Rattle.flow_network.specs.Flows.{outflow, unit_at, NoNegative}

-- a unit leaves u and comes to v; the balance of every other node stays
abbrev pub PushKeepsConservation : Type 0
PushKeepsConservation =
    (arcs : List FlowArc) (flows : List ℕ) (path : List ArcNo) (u v w : ℕ)
    → length flows ≡ length arcs
    → IsDistinct path
    → IsPath arcs flows path u v
    → inflow arcs (pushed path flows) w + outflow arcs flows w + unit_at u w
    ≡ inflow arcs flows w + outflow arcs (pushed path flows) w + unit_at v w

-- what the arcs that leave a node can carry together
abbrev pub outroom : List FlowArc → ℕ → ℕ
outroom [] v = 0
outroom (a ∷ arcs) v = cond (a.from == v) a.capacity 0 + outroom arcs v

-- an arc j leads to a node v whose own arcs can carry just as much. Where one of those has room, or another
-- arc i brings v a unit, arc j has room.
abbrev pub RoomBelowIsRoomAbove : Type 0
RoomBelowIsRoomAbove =
    (arcs : List FlowArc) (flows : List ℕ) (v j : ℕ) → length flows ≡ length arcs
    → WithinCapacities arcs flows
    → inflow arcs flows v ≡ outflow arcs flows v → j < length arcs → (arc_at arcs j).to ≡ v
    → (arc_at arcs j).capacity ≡ outroom arcs v
    → ((i : ℕ) → i < length arcs → (arc_at arcs i).from ≡ v
    → slice_index flows i < (arc_at arcs i).capacity → slice_index flows j < (arc_at arcs j).capacity)
    × ((i : ℕ) → i < length arcs → (arc_at arcs i).to ≡ v → (i ≡ j → ⊥) → 0 < slice_index flows i
    → slice_index flows j < (arc_at arcs j).capacity)

-- Units are handed on arc by arc, in an order in which no later arc leads back to a node that gave: at each
-- arc enough units wait at its start. extra is 1 at a source, else 0.
abbrev pub EnoughWait : Type 0
EnoughWait =
    (arcs : List FlowArc) (flows : List ℕ) (u j extra waiting : ℕ) → length flows ≡ length arcs
    → j < length arcs → (arc_at arcs j).from ≡ u
    → ((i : ℕ) → j ≤ i → i < length arcs → (arc_at arcs i).to ≡ u → ⊥)
    → inflow arcs flows u + extra ≡ outflow arcs flows u
    → waiting + outflow (take j arcs) (take j flows) u ≡ inflow (take j arcs) (take j flows) u + extra
    → slice_index flows j ≤ waiting

-- what a flow costs
abbrev pub flow_cost : List FlowArc → List ℕ → ℕ
flow_cost [] flows = 0
flow_cost (a ∷ arcs) [] = 0
flow_cost (a ∷ arcs) (f ∷ flows) = f * a.cost + flow_cost arcs flows

-- a flow without a negative reduced cost costs no more than any other flow with the same balance at each node
abbrev pub NoNegativeIsCheapest : Type 0
NoNegativeIsCheapest =
    (nodes : ℕ) (arcs : List FlowArc) (flows other : List ℕ) (h : ℕ → ℕ) → AreArcs nodes arcs
    → length flows ≡ length arcs → length other ≡ length arcs
    → NoNegative arcs flows h → WithinCapacities arcs other
    → ((v : ℕ) → inflow arcs flows v + outflow arcs other v ≡ inflow arcs other v + outflow arcs flows v)
    → flow_cost arcs flows ≤ flow_cost arcs other
