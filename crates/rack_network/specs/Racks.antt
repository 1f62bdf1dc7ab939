-- The rack network of a wave: its nodes by their places, and its arcs.
use Rattle.std.specs.Prelude.{ℕ, zero, suc, ◌≡◌, ◌+◌, ◌*◌, ◌<◌, ◌==◌, nat_lt, true, cond, List, [], ◌∷◌, length}
use Rattle.std.specs.Prelude.{◌≤◌, unwrap_or, slice_index, Contains}
use Rattle.rack_tree.specs.declared.TheConstants.{MAX_CENTRES, MAX_RACKS, MAX_WORKERS}
use Rattle.wave_problem.specs.declared.TheConstants.{MAX_SPLITS}
use Rattle.node_ids.specs.Sets.{HasPair}
use Rattle.wave_problem.specs.Wave.{Wave, IsAdmissible, split_at, worker_at, cost, reward}
use Rattle.wave_problem.specs.Sums.{sum_below}
use Rattle.flow_network.specs.declared.arcs.FlowArc.{FlowArc}
use Rattle.network_prices.specs.Pending.{pending_splits}
use Rattle.wave_problem.specs.Wave.{IsUsable}
use Rattle.network_prices.specs.Networks.{WaveNodes, IsWaveNetwork}
use Rattle.network_prices.specs.Tables.{AreRows}
use Rattle.rack_network.specs.declared.layout.RackLayout.{RackLayout}
use Rattle.rack_network.specs.declared.arcs.RackArc.{RackArc}
use Rattle.rack_network.specs.declared.arcs.RackArc.TheVariants.{Pair, Reach, Wait, Down, Slot, Rest}
use Rattle.rack_network.specs.Layout.{clusters}

-- a layout of the wave's size
pub record IsSized (wave : Wave) (layout : RackLayout) : Type 0 where
  pub splits : layout.splits ≡ length wave.splits
  pub centres : layout.centres ≡ wave.tree.centres
  pub racks : layout.racks ≡ length wave.tree.centre_of
  pub workers : layout.workers ≡ length wave.workers

-- A split's node has the split's number. Then come the nodes of the tree, level by level: the cluster at level 3,
-- where there are several centres, the centres at level 2, the racks at level 1, the workers at level 0. So many
-- nodes a level has, and here it begins.
abbrev pub count : Wave → ℕ → ℕ
count wave zero = length wave.workers
count wave (suc zero) = length wave.tree.centre_of
count wave (suc (suc zero)) = wave.tree.centres
count wave (suc (suc (suc zero))) = clusters wave.tree.centres
count wave (suc (suc (suc (suc level)))) = 0

abbrev pub start : Wave → ℕ → ℕ
start wave zero = length wave.splits + clusters wave.tree.centres + wave.tree.centres
    + length wave.tree.centre_of
start wave (suc zero) = length wave.splits + clusters wave.tree.centres + wave.tree.centres
start wave (suc (suc zero)) = length wave.splits + clusters wave.tree.centres
start wave (suc (suc (suc level))) = length wave.splits

abbrev pub node : Wave → ℕ → ℕ → ℕ
node wave level i = start wave level + i

-- then the node of the splits that are not started, and the sink
abbrev pub unstarted_node : Wave → ℕ
unstarted_node wave = start wave 0 + length wave.workers

abbrev pub sink_node : Wave → ℕ
sink_node wave = start wave 0 + length wave.workers + 1

-- the number of the node from which a node of a level hangs
abbrev pub parent : Wave → ℕ → ℕ → ℕ
parent wave zero w = slice_index wave.tree.rack_of w
parent wave (suc zero) r = slice_index wave.tree.centre_of r
parent wave (suc (suc level)) c = 0

-- the number of the node of a level that is a worker's own or stands above it
abbrev pub above : Wave → ℕ → ℕ → ℕ
above wave zero w = w
above wave (suc level) w = parent wave level (above wave level w)

-- each worker stands in one of the racks, each rack in one of the centres, and there are few of all
pub record IsTree (wave : Wave) : Type 0 where
  pub few_splits : length wave.splits ≤ MAX_SPLITS
  pub few_centres : wave.tree.centres ≤ MAX_CENTRES
  pub few_racks : length wave.tree.centre_of ≤ MAX_RACKS
  pub few_workers : length wave.workers ≤ MAX_WORKERS
  pub racks : (w : ℕ) → w < length wave.workers → parent wave 0 w < length wave.tree.centre_of
  pub centres : (r : ℕ) → r < length wave.tree.centre_of → parent wave 1 r < wave.tree.centres

-- what hangs above the centres
abbrev pub above_centres : Wave → List ℕ
above_centres wave = cond (nat_lt 1 wave.tree.centres) (node wave 3 0 ∷ []) []

-- above a worker's node hang its rack's, its centre's, and the cluster's where there are several centres
abbrev pub rack_nodes : Wave → WaveNodes
rack_nodes wave = record {
  worker = node wave 0;
  above = λ w. node wave 1 (above wave 1 w) ∷ node wave 2 (above wave 2 w) ∷ above_centres wave;
  unstarted = unstarted_node wave;
  sink = sink_node wave;
}

-- the free slots that a live worker has
abbrev pub slots_of : Wave → ℕ → ℕ
slots_of wave w = cond (worker_at wave w).live (worker_at wave w).free 0

-- the slots of the workers below n under a node
abbrev pub slots : Wave → ℕ → ℕ → ℕ → ℕ
slots wave n level i = sum_below n (λ w. cond (above wave level w == i) (slots_of wave w) 0)

-- a split has a barred pair
abbrev pub HasBars : Wave → ℕ → Type 0
HasBars wave s = (w : ℕ) × (w < length wave.workers) × HasPair wave.barred s w

-- an arc of the network
abbrev pub arc_of : Wave → RackArc → FlowArc
arc_of wave (Pair s w) =
    record { from = s; to = node wave 0 w; capacity = 1; cost = unwrap_or (cost wave s w) 0 }
arc_of wave (Reach s level i) =
    record { from = s; to = node wave level i; capacity = 1; cost = (split_at wave s).bytes * (2 * level) }
arc_of wave (Wait s) = record { from = s; to = unstarted_node wave; capacity = 1; cost = reward wave }
arc_of wave (Down level i) =
    record {
      from = node wave (suc level) (parent wave level i);
      to = node wave level i;
      capacity = slots wave (length wave.workers) level i;
      cost = 0;
    }
arc_of wave (Slot w) =
    record { from = node wave 0 w; to = sink_node wave; capacity = (worker_at wave w).free; cost = 0 }
arc_of wave Rest =
    record {
      from = unstarted_node wave;
      to = sink_node wave;
      capacity = length (pending_splits wave);
      cost = 0;
    }

-- a worker lives and stands under the node; where the node is its own, it has a free slot
pub record IsUnder (wave : Wave) (w level i : ℕ) : Type 0 where
  pub live : (worker_at wave w).live ≡ true
  pub under : above wave level w ≡ i
  pub has_slot : level ≡ 0 → 0 < (worker_at wave w).free

-- so it is with a holder of s
abbrev pub IsHeldUnder : Wave → ℕ → ℕ → ℕ → Type 0
IsHeldUnder wave s level i = (h : ℕ) × Contains (split_at wave s).holders h × IsUnder wave h level i

-- a split without barred pairs reaches the nodes under which its live holders stand
pub record IsReach (wave : Wave) (s level i : ℕ) : Type 0 where
  pub pending : (split_at wave s).pending ≡ true
  pub no_bars : HasBars wave s → ⊥
  pub known : i < count wave level
  pub below : IsHeldUnder wave s level i

-- a node hangs from one of the level above; a worker is usable
pub record IsDown (wave : Wave) (level i : ℕ) : Type 0 where
  pub known : i < count wave level
  pub hangs : parent wave level i < count wave (suc level)
  pub usable : level ≡ 0 → IsUsable wave.workers i

-- whether the wave has it
abbrev pub IsWanted : Wave → RackArc → Type 0
IsWanted wave (Pair s w) = IsAdmissible wave s w × HasBars wave s
IsWanted wave (Reach s level i) = IsReach wave s level i
IsWanted wave (Wait s) = (split_at wave s).pending ≡ true
IsWanted wave (Down level i) = IsDown wave level i
IsWanted wave (Slot w) = w < length wave.workers
IsWanted wave Rest = Unit {0}

-- The arcs of the rack network of a wave: each of them once, and no others, by rising start and then by
-- rising end; and the tree says where each worker stands.
pub record IsRackNetwork (wave : Wave) (arcs : List FlowArc) : Type 0 where
  pub rows : AreRows (IsWanted wave) (arc_of wave) arcs
  pub tree : IsTree wave

-- it is a network of its wave, so that the laws of these hold of it
abbrev pub RackIsWaveNetwork : Type 0
RackIsWaveNetwork = (wave : Wave) (arcs : List FlowArc) → IsRackNetwork wave arcs
    → IsWaveNetwork wave (rack_nodes wave) arcs
