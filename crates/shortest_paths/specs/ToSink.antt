-- What a search for a least path to one sink leaves. d v is the distance of v, far where it was not reached;
-- nodes farther than the sink may have any path or none.
use Rattle.std.specs.Prelude.{◌≡◌, ℕ, ◌-◌, ◌<◌, ◌≤◌, ◌^◌, List}
use Rattle.flow_network.specs.declared.arcs.FlowArc.{FlowArc}
use Rattle.flow_network.specs.declared.arcs.ArcNo.{ArcNo}
use Rattle.flow_network.specs.Flows.{IsPath, IsDistinct, path_cost}
use Rattle.shortest_paths.specs.Matched.{GoesOnce}
use Rattle.shortest_paths.specs.Lowering.{IsCovered, AreSteps}

-- the distance of a node that was not reached
abbrev pub far : ℕ
far = 2 ^ 64 - 1

-- each distance is the cost of a path from the start
abbrev pub AreTraced : List FlowArc → List ℕ → (ℕ → ℕ) → ℕ → (ℕ → ℕ) → Type 0
AreTraced arcs flows h start d =
    (v : ℕ) → d v < far → (path : List ArcNo) × IsPath arcs flows path start v × (path_cost arcs h path ≡ d v)

-- a path to the sink has this cost, and none has less
pub record IsLeastCost (arcs : List FlowArc) (flows : List ℕ) (h : ℕ
    → ℕ) (start sink total : ℕ) : Type 0 where
  pub path : List ArcNo
  pub leads : IsPath arcs flows path start sink
  pub cost : path_cost arcs h path ≡ total
  pub least : (other : List ArcNo) → IsPath arcs flows other start sink → total ≤ path_cost arcs h other

-- The distances, as far as the sink's. With the laws of Lowering this is all that shipping a unit asks.
pub record IsSearched (arcs : List FlowArc) (flows : List ℕ) (h : ℕ → ℕ) (start sink : ℕ) (d : ℕ
    → ℕ) : Type 0 where
  pub begun : d start ≡ 0
  pub traced : AreTraced arcs flows h start d
  pub covered : IsCovered arcs flows h d (d sink)

-- a path to the sink by steps of the search, with no arc twice, in whichever direction
pub record IsTrace (arcs : List FlowArc) (flows : List ℕ) (h : ℕ → ℕ) (start sink : ℕ) (d : ℕ → ℕ)
    (path : List ArcNo) : Type 0 where
  pub leads : IsPath arcs flows path start sink
  pub distinct : IsDistinct path
  pub once : GoesOnce path
  pub steps : AreSteps arcs h d path
