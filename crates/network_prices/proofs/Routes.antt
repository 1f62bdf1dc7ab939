-- The ways on which the units of starts come down to their workers.
use Rattle.std.proofs.Common.{◌≡◌, ℕ, ◌+◌, ◌<◌, ◌≤◌, List, [], ◌∷◌, length, get_or, refl, sym, ap, inl, inr}
use Rattle.std.proofs.Common.{◌⊎◌, arith, unwrap_or, get_or-set_same, Contains}
use Rattle.std.proofs.lemmas.Bool.{cases_eq}
use Rattle.flow_network.specs.declared.arcs.FlowArc.{FlowArc}
use Rattle.flow_network.specs.declared.arcs.ArcNo.{ArcNo}
use Rattle.flow_network.specs.declared.arcs.ArcNo.TheVariants.{Forward}
use Rattle.flow_network.specs.Flows.{arc_at, shifted, pushed, unit_at}
use Rattle.flow_network.proofs.Balance.{kept_shift}
use Rattle.wave_problem.specs.Wave.{Wave, cost}
use Rattle.network_prices.specs.Ways.{CameFrom}
use Rattle.network_prices.specs.Networks.{WaveNodes, way_of}
use Rattle.network_prices.proofs.Waiting.{unit_off, unit_on}

-- one unit more on an arc
pub shift_one : (flows : List ℕ) (j k : ℕ) → j < length flows
    → get_or (shifted flows (Forward j)) k 0 ≡ get_or flows k 0 + unit_at j k
shift_one flows j k l = elim (cases_eq j k) [
  | inl e ↦
      (let here = get_or-set_same flows j (get_or flows j 0 + 1) 0 l in
      let one = unit_on j k e in
      let new = ap (λ (i : ℕ). get_or (shifted flows (Forward j)) i 0) e in
      let old = ap (λ (i : ℕ). get_or flows i 0) e in omega arith)
  | inr n ↦ (let same = kept_shift flows (Forward j) k n in let none = unit_off j k n in omega arith)
]

-- as `CameFrom`, where a function says how many units each arc has
abbrev pub CameOn : List FlowArc → (ℕ → ℕ) → List ℕ → ℕ → ℕ → Type 0
CameOn arcs units [] s v = v ≡ s
CameOn arcs units (k ∷ path) s v = (k < length arcs) × (0 < units k)
    × ((arc_at arcs k).to ≡ v) × CameOn arcs units path s (arc_at arcs k).from

pub came_more : (arcs : List FlowArc) (units more : ℕ → ℕ) → ((k : ℕ) → 0 < units k → 0 < more k)
    → (path : List ℕ) (s v : ℕ) → CameOn arcs units path s v → CameOn arcs more path s v
came_more arcs units more up [] s v came = came
came_more arcs units more up (k ∷ path) s v came =
    (came.0, up k came.1, came.2, came_more arcs units more up path s (arc_at arcs k).from came.3)

pub came_from : (arcs : List FlowArc) (units : ℕ → ℕ) (flows : List ℕ)
    → ((k : ℕ) → 0 < units k → 0 < get_or flows k 0)
    → (path : List ℕ) (s v : ℕ) → CameOn arcs units path s v → CameFrom arcs flows path s v
came_from arcs units flows up [] s v came = came
came_from arcs units flows up (k ∷ path) s v came =
    (came.0, up k came.1, came.2, came_from arcs units flows up path s (arc_at arcs k).from came.3)

-- the way with one arc more at its start
pub came_after : (arcs : List FlowArc) (units : ℕ → ℕ) (k : ℕ) → k < length arcs → 0 < units k
    → (path : List ℕ) (v : ℕ) → CameOn arcs units path (arc_at arcs k).to v
    → (longer : List ℕ) × CameOn arcs units longer (arc_at arcs k).from v
came_after arcs units k l some [] v came = (k ∷ [], (l, some, sym came, refl))
came_after arcs units k l some (j ∷ path) v came =
    let rest = came_after arcs units k l some path (arc_at arcs j).from came.3 in
    (j ∷ rest.0, (came.0, came.1, came.2, rest.1))

-- What one unit from x down to the worker w's node, and on to the sink, adds to each arc. An arc that it
-- takes leaves the worker's node, or leads to a node on the worker's way up at no cost.
pub record IsDescent (nodes : WaveNodes) (arcs : List FlowArc) (w x : ℕ) (path : List ArcNo) (gains : ℕ → ℕ)
    : Type 0 where
  pub each : (flows : List ℕ) (k : ℕ) → length flows ≡ length arcs
      → get_or (pushed path flows) k 0 ≡ get_or flows k 0 + gains k
  pub listed : (k : ℕ) → 0 < gains k → k < length arcs
  pub takes : (k : ℕ) → 0 < gains k → ((arc_at arcs k).from ≡ nodes.worker w)
      ⊎ (Contains (way_of nodes w) (arc_at arcs k).to × ((arc_at arcs k).cost ≡ 0)
      × ((came : List ℕ) × CameOn arcs gains came x (arc_at arcs k).from))
  pub came : (came : List ℕ) × CameOn arcs gains came x (nodes.worker w)

-- The unit of a start takes the arc: it leaves the worker's node, or leads to a node on the worker's way up
-- at no more than the start costs.
abbrev pub IsTakenBy : Wave → WaveNodes → List FlowArc → (ℕ → ℕ) → ℕ → ℕ → ℕ → Type 0
IsTakenBy wave nodes arcs units k s w = ((arc_at arcs k).from ≡ nodes.worker w)
    ⊎ (Contains (way_of nodes w) (arc_at arcs k).to
    × ((arc_at arcs k).cost ≤ unwrap_or (cost wave s w) 0)
    × ((came : List ℕ) × CameOn arcs units came s (arc_at arcs k).from))

-- The units of these starts alone: each comes down to its worker's node, and each arc with a unit is taken by
-- one of them.
pub record AreRoutes (wave : Wave) (nodes : WaveNodes) (arcs : List FlowArc) (pairs : List (ℕ × ℕ))
    (units : ℕ → ℕ) : Type 0 where
  pub came : (s w : ℕ) → Contains pairs (s, w) → (path : List ℕ) × CameOn arcs units path s (nodes.worker w)
  pub listed : (k : ℕ) → 0 < units k → k < length arcs
  pub taken : (k : ℕ) → 0 < units k
      → (s : ℕ) × (w : ℕ) × Contains pairs (s, w) × IsTakenBy wave nodes arcs units k s w
