-- Networks in layers: the splits, nodes that hand units on, the workers, the node of the splits that are
-- not started, and the sink. Whatever lies between splits and workers, a plan is read off a flow in one
-- way.
use Rattle.std.specs.Prelude.{◌≡◌, ℕ, ◌+◌, ◌<◌, ◌≤◌, true, List, length, slice_index, Option, Some, None, ◌⊎◌}
use Rattle.flow_network.specs.declared.arcs.FlowArc.{FlowArc}
use Rattle.flow_network.specs.Flows.{arc_at}
use Rattle.wave_problem.specs.Wave.{Wave, split_at}
use Rattle.wave_problem.specs.Assignment.{start_of, Plan}
use Rattle.network_prices.specs.Networks.{WaveNodes}

-- the nodes, where those of the workers stand one after the other from `first` on
abbrev pub nodes_from : Wave → ℕ → (ℕ → List ℕ) → WaveNodes
nodes_from wave first above = record {
  worker = λ w. first + w;
  above = above;
  unstarted = first + length wave.workers;
  sink = first + length wave.workers + 1;
}

-- a node that hands on what it has: that of a pending split, or one between splits and workers
abbrev pub HandsOn : Wave → ℕ → ℕ → Type 0
HandsOn wave first u = ((split_at wave u).pending ≡ true) ⊎ ((length wave.splits ≤ u) × (u < first))

abbrev pub IsWorkerNode : Wave → ℕ → ℕ → Type 0
IsWorkerNode wave first v = (w : ℕ) × (w < length wave.workers) × (v ≡ first + w)

-- what an arc leaves: a node that hands on, and not for the sink; or a worker or the node of the splits that
-- are not started, for the sink
abbrev pub Leaves : Wave → ℕ → FlowArc → Type 0
Leaves wave first a = (HandsOn wave first a.from × (a.to ≡ first + length wave.workers + 1 → ⊥))
    ⊎ ((a.to ≡ first + length wave.workers + 1)
    × ((a.from ≡ first + length wave.workers) ⊎ IsWorkerNode wave first a.from))

-- and what it enters
abbrev pub Enters : Wave → ℕ → FlowArc → Type 0
Enters wave first a = IsWorkerNode wave first a.to ⊎ ((a.to ≡ first + length wave.workers)
    ⊎ (HandsOn wave first a.to ⊎ (a.to ≡ first + length wave.workers + 1)))

-- each arc leads past the starts of those before it, and none to a split
pub record IsLayered (wave : Wave) (first : ℕ) (arcs : List FlowArc) : Type 0 where
  pub past_splits : length wave.splits ≤ first
  pub onward : (j k : ℕ) → j ≤ k → k < length arcs → (arc_at arcs j).from < (arc_at arcs k).to
  pub no_entry : (k : ℕ) → k < length arcs → length wave.splits ≤ (arc_at arcs k).to
  pub leaves : (k : ℕ) → k < length arcs → Leaves wave first (arc_at arcs k)
  pub enters : (k : ℕ) → k < length arcs → Enters wave first (arc_at arcs k)

-- the split whose unit is at a place starts on the worker whose node that is
pub record IsStart (wave : Wave) (first place : ℕ) (start : Option ℕ) : Type 0 where
  pub worker : (w : ℕ) → start ≡ Some w → (w < length wave.workers) × (place ≡ first + w)
  pub none : start ≡ None → (w : ℕ) → w < length wave.workers → place ≡ first + w → ⊥

-- each split below n starts as its unit's place says
pub record AreStartsTo (wave : Wave) (first : ℕ) (places : List ℕ) (n : ℕ) (plan : Plan) : Type 0 where
  pub size : length plan.starts ≡ length wave.splits
  pub workers : plan.workers ≡ length wave.workers
  pub each : (s : ℕ) → s < n → IsStart wave first (slice_index places s) (start_of plan.starts s)

-- each split's unit is at the split's own node
pub record AreFirst (wave : Wave) (places : List ℕ) : Type 0 where
  pub size : length places ≡ length wave.splits
  pub each : (s : ℕ) → s < length wave.splits → slice_index places s ≡ s
