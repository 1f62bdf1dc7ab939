-- Flows on a list of arcs: residual arcs, paths, what a push does, balance, reduced costs.
-- arcs : List FlowArc is fixed; flows : List ℕ has the flow of each arc, by the arc's number.
use Rattle.std.specs.Prelude.{◌≡◌, ℕ, ◌+◌, ◌-◌, ◌<◌, ◌≤◌, ◌==◌, ◌^◌, cond, List, [], ◌∷◌, length}
use Rattle.std.specs.Prelude.{slice_index_or, slice_index, slice_set, suc, ◌++◌, ℤ, pos, neg_ℤ, All}
use Rattle.flow_network.specs.declared.arcs.FlowArc.{FlowArc}
use Rattle.flow_network.specs.declared.arcs.ArcNo.{ArcNo}
use Rattle.flow_network.specs.declared.arcs.ArcNo.TheVariants.{Forward, Reverse}

-- the arc of a number past the end
abbrev pub no_arc : FlowArc
no_arc = record { from = 0; to = 0; capacity = 0; cost = 0 }

abbrev pub arc_at : List FlowArc → ℕ → FlowArc
arc_at arcs k = slice_index_or arcs k no_arc

-- where a residual arc leaves, and where it leads
abbrev pub tail_of : List FlowArc → ArcNo → ℕ
tail_of arcs (Forward k) = (arc_at arcs k).from
tail_of arcs (Reverse k) = (arc_at arcs k).to

abbrev pub head_of : List FlowArc → ArcNo → ℕ
head_of arcs (Forward k) = (arc_at arcs k).to
head_of arcs (Reverse k) = (arc_at arcs k).from

-- how many units more the residual arc takes
abbrev pub residual_of : List FlowArc → List ℕ → ArcNo → ℕ
residual_of arcs flows (Forward k) = (arc_at arcs k).capacity - slice_index flows k
residual_of arcs flows (Reverse k) = slice_index flows k

abbrev pub arc_index : ArcNo → ℕ
arc_index (Forward k) = k
arc_index (Reverse k) = k

-- an arc of the list with room
pub record IsResidual (arcs : List FlowArc) (flows : List ℕ) (a : ArcNo) : Type 0 where
  pub listed : arc_index a < length arcs
  pub room : 0 < residual_of arcs flows a

-- a path of residual arcs from u to v
abbrev pub IsPath : List FlowArc → List ℕ → List ArcNo → ℕ → ℕ → Type 0
IsPath arcs flows [] u v = u ≡ v
IsPath arcs flows (a ∷ path) u v =
    IsResidual arcs flows a × (tail_of arcs a ≡ u) × IsPath arcs flows path (head_of arcs a) v

-- one unit over one residual arc, and over each arc of a path
abbrev pub shifted : List ℕ → ArcNo → List ℕ
shifted flows (Forward k) = slice_set flows k (slice_index flows k + 1)
shifted flows (Reverse k) = slice_set flows k (slice_index flows k - 1)

abbrev pub pushed : List ArcNo → List ℕ → List ℕ
pushed [] flows = flows
pushed (a ∷ path) flows = pushed path (shifted flows a)

-- what flows into a node, and out of it
abbrev pub inflow : List FlowArc → List ℕ → ℕ → ℕ
inflow [] flows v = 0
inflow (a ∷ arcs) [] v = 0
inflow (a ∷ arcs) (f ∷ flows) v = cond (a.to == v) f 0 + inflow arcs flows v

abbrev pub outflow : List FlowArc → List ℕ → ℕ → ℕ
outflow [] flows v = 0
outflow (a ∷ arcs) [] v = 0
outflow (a ∷ arcs) (f ∷ flows) v = cond (a.from == v) f 0 + outflow arcs flows v

-- one at the node, else none
abbrev pub unit_at : ℕ → ℕ → ℕ
unit_at u v = cond (u == v) 1 0

-- no arc stands twice
abbrev pub Lacks : ArcNo → List ArcNo → Type 0
Lacks a [] = Unit {0}
Lacks a (b ∷ path) = ((a ≡ b) → ⊥) × Lacks a path

abbrev pub IsDistinct : List ArcNo → Type 0
IsDistinct [] = Unit {0}
IsDistinct (a ∷ path) = Lacks a path × IsDistinct path

-- h v is how far the potential of v lies below 0. The arc's own reduced cost is not negative while it has
-- room, and that of its reverse is not while it carries a unit.
abbrev pub NoNegativeArc : (ℕ → ℕ) → FlowArc → ℕ → Type 0
NoNegativeArc h a flow =
    (flow < a.capacity → h a.from ≤ a.cost + h a.to) × (0 < flow → a.cost + h a.to ≤ h a.from)

-- no residual arc has a negative reduced cost
abbrev pub NoNegative : List FlowArc → List ℕ → (ℕ → ℕ) → Type 0
NoNegative arcs flows h = (k : ℕ) → k < length arcs → NoNegativeArc h (arc_at arcs k) (slice_index flows k)

-- the reduced cost of a residual arc, where it is not negative
abbrev pub reduced_cost : List FlowArc → (ℕ → ℕ) → ArcNo → ℕ
reduced_cost arcs h (Forward k) = ((arc_at arcs k).cost + h (arc_at arcs k).to) - h (arc_at arcs k).from
reduced_cost arcs h (Reverse k) = h (arc_at arcs k).from - ((arc_at arcs k).cost + h (arc_at arcs k).to)

abbrev pub path_cost : List FlowArc → (ℕ → ℕ) → List ArcNo → ℕ
path_cost arcs h [] = 0
path_cost arcs h (a ∷ path) = reduced_cost arcs h a + path_cost arcs h path

-- no arc carries more than its capacity
abbrev pub WithinCapacities : List FlowArc → List ℕ → Type 0
WithinCapacities arcs flows = (k : ℕ) → k < length arcs → slice_index flows k ≤ (arc_at arcs k).capacity

abbrev pub opposite : ArcNo → ArcNo
opposite (Forward k) = Reverse k
opposite (Reverse k) = Forward k

-- where a path of at least one arc begins and ends
abbrev pub path_start : List FlowArc → List ArcNo → ℕ
path_start arcs [] = 0
path_start arcs (a ∷ path) = tail_of arcs a

abbrev pub path_end : List FlowArc → List ArcNo → ℕ
path_end arcs [] = 0
path_end arcs (a ∷ []) = head_of arcs a
path_end arcs (a ∷ (b ∷ path)) = path_end arcs (b ∷ path)

-- what holds while a path is being pushed, with rest still to come
pub record IsPushing (arcs : List FlowArc) (flows : List ℕ) (rest : List ArcNo) (last : List ℕ) : Type 0 where
  pub sizes : length flows ≡ length arcs
  pub within : WithinCapacities arcs flows
  pub distinct : IsDistinct rest
  pub residual : All (IsResidual arcs flows) rest
  pub rest_is : pushed rest flows ≡ last

-- each arc is between two of so many nodes, and its capacity and cost are within the limits
pub record IsArc (nodes : ℕ) (a : FlowArc) : Type 0 where
  pub from_in : a.from < nodes
  pub to_in : a.to < nodes
  pub capacity_in : a.capacity ≤ 4096
  pub cost_in : a.cost < 2 ^ 47

abbrev pub AreArcs : ℕ → List FlowArc → Type 0
AreArcs nodes arcs = (k : ℕ) → k < length arcs → IsArc nodes (arc_at arcs k)

-- the reduced cost of a residual arc is not negative
abbrev pub IsNonNegative : List FlowArc → (ℕ → ℕ) → ArcNo → Type 0
IsNonNegative arcs h (Forward k) = h (arc_at arcs k).from ≤ (arc_at arcs k).cost + h (arc_at arcs k).to
IsNonNegative arcs h (Reverse k) = (arc_at arcs k).cost + h (arc_at arcs k).to ≤ h (arc_at arcs k).from

-- the cost of a residual arc: below 0 where a unit is taken back
abbrev pub cost_of : List FlowArc → ArcNo → ℤ
cost_of arcs (Forward k) = pos (arc_at arcs k).cost
cost_of arcs (Reverse k) = neg_ℤ (pos (arc_at arcs k).cost)

-- those of arc number k and its reverse that leave node u
abbrev pub own_leaving : ℕ → FlowArc → ℕ → List ArcNo
own_leaving k a u = cond (a.from == u) (Forward k ∷ []) [] ++ cond (a.to == u) (Reverse k ∷ []) []

-- the residual arcs that leave node u, where the first arc has number k
abbrev pub leaving_from : ℕ → List FlowArc → ℕ → List ArcNo
leaving_from k [] u = []
leaving_from k (a ∷ arcs) u = own_leaving k a u ++ leaving_from (suc k) arcs u

abbrev pub leaving_of : List FlowArc → ℕ → List ArcNo
leaving_of arcs u = leaving_from 0 arcs u

-- an arc of that number is listed at its start, and its reverse at its end
abbrev pub listed_at : List (List ArcNo) → ℕ → ArcNo → List (List ArcNo)
listed_at leaving u a = slice_set leaving u (slice_index_or leaving u [] ++ a ∷ [])

abbrev pub with_arc : List (List ArcNo) → ℕ → ℕ → ℕ → List (List ArcNo)
with_arc leaving from to k = listed_at (listed_at leaving from (Forward k)) to (Reverse k)

-- what holds of the arcs and flows of every network
pub record IsNetwork (nodes : ℕ) (arcs : List FlowArc) (flows : List ℕ) : Type 0 where
  pub node_limit : nodes ≤ 4096
  pub arc_limit : length arcs ≤ 1048576
  pub arcs_in : AreArcs nodes arcs
  pub sizes : length flows ≡ length arcs
  pub within : WithinCapacities arcs flows
