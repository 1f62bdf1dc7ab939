-- What a network of a wave has to offer, so that a plan and prices can be read off its flows.
use Rattle.std.specs.Prelude.{◌≡◌, ℕ, ◌<◌, ◌≤◌, true, List, ◌∷◌, length, unwrap_or, Contains}
use Rattle.flow_network.specs.declared.arcs.FlowArc.{FlowArc}
use Rattle.flow_network.specs.Flows.{arc_at}
use Rattle.flow_network.specs.Laws.{outroom}
use Rattle.wave_problem.specs.Wave.{Wave, IsAdmissible, split_at, worker_at, cost, reward, IsUsable}
use Rattle.network_prices.specs.Pending.{pending_splits}
use Rattle.network_prices.specs.Ways.{IsWay, IsInner}

-- the nodes of a network but for the splits, whose nodes are their numbers
pub record WaveNodes : Type 0 where
  pub worker : ℕ → ℕ
  pub above : ℕ → List ℕ
  pub unstarted : ℕ
  pub sink : ℕ

-- the way up from a worker's node to the root
abbrev pub way_of : WaveNodes → ℕ → List ℕ
way_of nodes w = nodes.worker w ∷ nodes.above w

-- an arc stands in a list
abbrev pub HasArc : List FlowArc → FlowArc → Type 0
HasArc arcs a = (k : ℕ) × (k < length arcs) × (arc_at arcs k ≡ a)

-- an arc by its number
pub record IsArcFrom (arcs : List FlowArc) (k u v capacity cost : ℕ) : Type 0 where
  pub listed : k < length arcs
  pub from_is : (arc_at arcs k).from ≡ u
  pub to_is : (arc_at arcs k).to ≡ v
  pub capacity_is : (arc_at arcs k).capacity ≡ capacity
  pub cost_is : (arc_at arcs k).cost ≡ cost

-- an arc of a split that leads to a node of a way, at no more than a cost
pub record IsOffer (arcs : List FlowArc) (s : ℕ) (way : List ℕ) (most k : ℕ) : Type 0 where
  pub listed : k < length arcs
  pub from_is : (arc_at arcs k).from ≡ s
  pub on_way : Contains way (arc_at arcs k).to
  pub one : (arc_at arcs k).capacity ≡ 1
  pub at_most : (arc_at arcs k).cost ≤ most

-- The arcs of the splits alone have costs. Each worker has a node of its own, and each way up from there is a
-- way of the network. The arcs of a split to a way's nodes are just what makes its starts there admissible,
-- at no less than a start's cost, and one of them costs no more. A pending split has an arc to the node of
-- those that are not started, which can send on the units of all.
pub record IsWaveNetwork (wave : Wave) (nodes : WaveNodes) (arcs : List FlowArc) : Type 0 where
  pub past_splits : length wave.splits ≤ nodes.sink
  pub no_entry : (k : ℕ) → k < length arcs → length wave.splits ≤ (arc_at arcs k).to
  pub free : (k : ℕ) → k < length arcs → length wave.splits ≤ (arc_at arcs k).from → (arc_at arcs k).cost ≡ 0
  pub ways : (w : ℕ) → IsUsable wave.workers w → IsWay arcs (length wave.splits) nodes.sink (way_of nodes w)
  pub closed : (w k : ℕ) → w < length wave.workers → (IsUsable wave.workers w → ⊥) → k < length arcs
      → (arc_at arcs k).to ≡ nodes.worker w → ⊥
  pub known : (w : ℕ) → length wave.splits ≤ nodes.worker w
  pub own : (v w : ℕ) → nodes.worker v ≡ nodes.worker w → v ≡ w
  pub sound : (s w k : ℕ) → s < length wave.splits → IsUsable wave.workers w → k < length arcs
      → (arc_at arcs k).from ≡ s → Contains (way_of nodes w) (arc_at arcs k).to
      → IsAdmissible wave s w × (unwrap_or (cost wave s w) 0 ≤ (arc_at arcs k).cost)
  pub complete : (s w : ℕ) → IsAdmissible wave s w
      → (k : ℕ) × IsOffer arcs s (way_of nodes w) (unwrap_or (cost wave s w) 0) k
  pub wait : (s : ℕ) → (split_at wave s).pending ≡ true
      → (k : ℕ) × IsArcFrom arcs k s nodes.unstarted 1 (reward wave)
  pub waiting : (k : ℕ) → k < length arcs → (arc_at arcs k).to ≡ nodes.unstarted
      → ((arc_at arcs k).from < length wave.splits) × ((arc_at arcs k).cost ≡ reward wave)
  pub rest : (k : ℕ) × (room : ℕ) × IsArcFrom arcs k nodes.unstarted nodes.sink room 0
      × (length (pending_splits wave) ≤ room)
  pub apart : (w : ℕ) → IsUsable wave.workers w → Contains (way_of nodes w) nodes.unstarted → ⊥
  pub rest_inner : IsInner (length wave.splits) nodes.sink nodes.unstarted
  pub slot : (w : ℕ) → IsUsable wave.workers w
      → (k : ℕ) × IsArcFrom arcs k (nodes.worker w) nodes.sink (worker_at wave w).free 0
  pub slots : (w : ℕ) → IsUsable wave.workers w → outroom arcs (nodes.worker w) ≡ (worker_at wave w).free
