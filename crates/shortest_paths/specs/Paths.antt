-- Least paths: for each node a distance with its path, or none.
use Rattle.std.specs.Prelude.{◌≡◌, ℕ, ◌≤◌, ◌^◌, List, length, slice_index, slice_index_or, Option, Some, None}
use Rattle.flow_network.specs.declared.arcs.FlowArc.{FlowArc}
use Rattle.flow_network.specs.declared.arcs.ArcNo.{ArcNo}
use Rattle.flow_network.specs.Flows.{IsNetwork, IsPath, IsDistinct, NoNegative, path_cost}

abbrev pub option_distance : Option (ℕ × List ArcNo) → Option ℕ
option_distance None = None
option_distance (Some p) = Some p.0

abbrev pub option_path : Option (ℕ × List ArcNo) → Option (List ArcNo)
option_path None = None
option_path (Some p) = Some p.1

-- each distance is the cost of its path, which has no arc twice
abbrev pub ArePaths : List FlowArc → List ℕ → (ℕ → ℕ) → ℕ → List (Option (ℕ × List ArcNo)) → Type 0
ArePaths arcs flows h start paths = (v c : ℕ) (path : List ArcNo) → slice_index_or paths v None
    ≡ Some (c, path)
    → IsPath arcs flows path start v × (path_cost arcs h path ≡ c) × IsDistinct path

-- the node has a path, of at most this cost
abbrev pub IsFound : List (Option (ℕ × List ArcNo)) → ℕ → ℕ → Type 0
IsFound paths v most = (found : ℕ × List ArcNo) × (slice_index_or paths v None ≡ Some found)
    × (found.0 ≤ most)

-- no path is cheaper than the one that was found to its end
pub record AreLeastPaths (arcs : List FlowArc) (flows : List ℕ) (h : ℕ → ℕ) (start : ℕ)
    (paths : List (Option (ℕ × List ArcNo))) : Type 0 where
  pub reached : ArePaths arcs flows h start paths
  pub least : (v : ℕ) (path : List ArcNo) → IsPath arcs flows path start v
      → IsFound paths v (path_cost arcs h path)

-- a network with potentials, the depth of a node being how far its potential is below 0, and no negative
-- reduced cost
pub record IsPriced (nodes : ℕ) (arcs : List FlowArc) (flows : List ℕ) (depths : List ℕ) : Type 0 where
  pub network : IsNetwork nodes arcs flows
  pub size : length depths ≡ nodes
  pub deep : (v : ℕ) → slice_index depths v ≤ 2 ^ 60
  pub reduced : NoNegative arcs flows (slice_index depths)
