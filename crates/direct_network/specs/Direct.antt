-- The direct network of a wave: its nodes by their places, and its arcs.
use Rattle.std.specs.Prelude.{ℕ, ◌≡◌, ◌+◌, ◌<◌, true, List, [], length, unwrap_or}
use Rattle.wave_problem.specs.Wave.{Wave, IsAdmissible, split_at, worker_at, cost, reward}
use Rattle.flow_network.specs.declared.arcs.FlowArc.{FlowArc}
use Rattle.network_prices.specs.Pending.{pending_splits}
use Rattle.network_prices.specs.Networks.{WaveNodes, IsWaveNetwork}
use Rattle.network_prices.specs.Tables.{AreRows}
use Rattle.direct_network.specs.declared.layout.DirectLayout.{DirectLayout}
use Rattle.direct_network.specs.declared.arcs.DirectArc.{DirectArc}
use Rattle.direct_network.specs.declared.arcs.DirectArc.TheVariants.{Pair, Wait, Slot, Rest}

-- a layout of the wave's size
pub record IsSized (wave : Wave) (layout : DirectLayout) : Type 0 where
  pub splits : layout.splits ≡ length wave.splits
  pub workers : layout.workers ≡ length wave.workers

-- the nodes: a split has its own number; then the workers, the node of the splits that are not started, and
-- the sink
abbrev pub worker_node : Wave → ℕ → ℕ
worker_node wave w = length wave.splits + w

abbrev pub unstarted_node : Wave → ℕ
unstarted_node wave = length wave.splits + length wave.workers

abbrev pub sink_node : Wave → ℕ
sink_node wave = length wave.splits + length wave.workers + 1

-- no node lies above a worker's
abbrev pub direct_nodes : Wave → WaveNodes
direct_nodes wave = record {
  worker = worker_node wave;
  above = λ w. [];
  unstarted = unstarted_node wave;
  sink = sink_node wave;
}

-- an arc of the network
abbrev pub arc_of : Wave → DirectArc → FlowArc
arc_of wave (Pair s w) =
    record { from = s; to = worker_node wave w; capacity = 1; cost = unwrap_or (cost wave s w) 0 }
arc_of wave (Wait s) = record { from = s; to = unstarted_node wave; capacity = 1; cost = reward wave }
arc_of wave (Slot w) =
    record { from = worker_node wave w; to = sink_node wave; capacity = (worker_at wave w).free; cost = 0 }
arc_of wave Rest =
    record {
      from = unstarted_node wave;
      to = sink_node wave;
      capacity = length (pending_splits wave);
      cost =
          0;
    }

-- whether the wave has it
abbrev pub IsWanted : Wave → DirectArc → Type 0
IsWanted wave (Pair s w) = IsAdmissible wave s w
IsWanted wave (Wait s) = (split_at wave s).pending ≡ true
IsWanted wave (Slot w) = w < length wave.workers
IsWanted wave Rest = Unit {0}

-- the arcs of the direct network of a wave: each of them once, and no others, by rising start and then by
-- rising end
abbrev pub IsDirect : Wave → List FlowArc → Type 0
IsDirect wave arcs = AreRows (IsWanted wave) (arc_of wave) arcs

-- it is a network of its wave, so that the laws of these hold of it
abbrev pub DirectIsWaveNetwork : Type 0
DirectIsWaveNetwork = (wave : Wave) (arcs : List FlowArc) → IsDirect wave arcs
    → IsWaveNetwork wave (direct_nodes wave) arcs
