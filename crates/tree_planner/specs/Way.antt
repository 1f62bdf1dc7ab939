-- The way that a search found, along which units are moved from its end back.
use Rattle.std.specs.Prelude.{ℕ, ◌≡◌, ◌≢◌, ◌+◌, ◌-◌, ◌<◌, ◌≤◌, ◌↔◌, min, true, length, Option, Some, None}
use Rattle.wave_problem.specs.Wave.{Wave}
use Rattle.tree_flow.specs.declared.node_table.NodeTable.{NodeTable}
use Rattle.tree_flow.specs.declared.nodes.End.{End}
use Rattle.tree_flow.specs.declared.nodes.Place.TheVariants.{Stands, Unshipped}
use Rattle.tree_flow.specs.declared.nodes.TreeNode.{TreeNode}
use Rattle.tree_flow.specs.declared.nodes.TreeNode.TheVariants.{Cluster, Worker}
use Rattle.tree_planner.specs.declared.search.Goal.{Goal}
use Rattle.tree_planner.specs.declared.search.Goal.TheVariants.{Wait, Slot, Off}
use Rattle.tree_planner.specs.declared.search.Search.{Search}
use Rattle.tree_planner.specs.declared.search.Step.{Step}
use Rattle.tree_planner.specs.declared.search.Step.TheVariants.{Start, Down, Up, Over}
use Rattle.tree_flow.specs.Nodes.{is_under, parent, IsEnd, IsNode}
use Rattle.tree_flow.specs.State.{State, place_of, reach_cost, sum_under, taken, IsKept, IsKeptBut}
use Rattle.tree_planner.specs.Searching.{far_at, order_at, step_at}
use Rattle.tree_flow.specs.Table.{at_node}

-- a node nearer than the bound lies deeper by the rest, and none deeper than the most
abbrev pub IsDeeper : ℕ → NodeTable ℕ → Search → NodeTable ℕ → TreeNode → Type 0
IsDeeper most old search new v = at_node new v ≡ min most (at_node old v + (search.bound - far_at search v))

abbrev pub AreDeeper : ℕ → NodeTable ℕ → Search → NodeTable ℕ → Type 0
AreDeeper most old search new = (v : TreeNode) → IsDeeper most old search new v

-- the search has looked from the node, and a way over it may end at the bound
pub record IsOnWay (search : Search) (v : TreeNode) : Type 0 where
  pub settled : 0 < order_at search v
  pub reached : far_at search v < search.limit
  pub near : far_at search v ≤ search.bound

-- the split ends there as cheaply as anywhere
pub record StartsTight (wave : Wave) (state : State) (s : ℕ) (e : End) : Type 0 where
  pub is_end : IsEnd wave s e
  pub least : (y : End) → IsEnd wave s y → reach_cost wave state s e ≤ reach_cost wave state s y
  pub below_waiting : reach_cost wave state s e ≤ state.terms.worth

-- the steps to a node that cost nothing, from one that was looked from before
pub record GoesDownTight (wave : Wave) (state : State) (search : Search) (x : TreeNode) : Type 0 where
  pub hangs : x ≢ Cluster
  pub tight : state.depth (parent wave.tree x) ≡ state.depth x
  pub from : IsOnWay search (parent wave.tree x)
  pub before : order_at search (parent wave.tree x) < order_at search x

pub record GoesUpTight (wave : Wave) (state : State) (search : Search) (x c : TreeNode) : Type 0 where
  pub known : IsNode wave.tree c
  pub hangs : c ≢ Cluster
  pub above : parent wave.tree c ≡ x
  pub tight : state.depth x ≡ state.depth c
  pub some : 0 < state.flow c
  pub from : IsOnWay search c
  pub before : order_at search c < order_at search x

pub record GoesOverTight (wave : Wave) (state : State) (search : Search) (t : ℕ) (e : End) : Type 0 where
  pub end : End
  pub stands : place_of state t ≡ Stands end
  pub is_end : IsEnd wave t e
  pub tight : reach_cost wave state t e ≡ reach_cost wave state t end
  pub from : IsOnWay search end.node
  pub before : order_at search end.node < order_at search e.node

abbrev pub IsTight : Wave → State → Search → TreeNode → Step → Type 0
IsTight wave state search x (Start level) =
    StartsTight wave state search.split (record { node = x; level = level })
IsTight wave state search x Down = GoesDownTight wave state search x
IsTight wave state search x (Up c) = GoesUpTight wave state search x c
IsTight wave state search x (Over t level) =
    GoesOverTight wave state search t (record { node = x; level = level })

-- the next place of each worker under the node that has a free slot costs no more than the node is deep
abbrev pub AreCheap : Wave → State → TreeNode → Type 0
AreCheap wave state v = (w : ℕ) → w < length wave.workers → is_under wave.tree (Worker w) v ≡ true
    → 0 < state.free w → state.terms.price w (taken wave state w) ≤ state.depth v

pub record SlotIsTight (wave : Wave) (state : State) (search : Search) (v : TreeNode) : Type 0 where
  pub known : IsNode wave.tree v
  pub some : 0 < sum_under wave v state.free
  pub cheap : AreCheap wave state v
  pub from : IsOnWay search v

pub record OffIsTight (wave : Wave) (state : State) (search : Search) (t : ℕ) : Type 0 where
  pub end : End
  pub stands : place_of state t ≡ Stands end
  pub tight : reach_cost wave state t end ≡ state.terms.worth
  pub from : IsOnWay search end.node

-- and the end of the way costs nothing
abbrev pub IsTightGoal : Wave → State → Search → Goal → Type 0
IsTightGoal wave state search Wait = (y : End) → IsEnd wave search.split y
    → state.terms.worth ≤ reach_cost wave state search.split y
IsTightGoal wave state search (Slot v) = SlotIsTight wave state search v
IsTightGoal wave state search (Off t) = OffIsTight wave state search t

-- a state in which the whole way costs nothing
pub record IsReady (wave : Wave) (state : State) (search : Search) : Type 0 where
  pub kept : IsKept wave state
  pub unshipped : place_of state search.split ≡ Unshipped
  pub steps : (v : TreeNode) → IsOnWay search v → IsTight wave state search v (step_at search v)
  pub goal : IsTightGoal wave state search search.goal

-- Units were moved as far back as a node, where a hole is. To the nodes from which the search looked before
-- this node no fewer units come than did, and the splits on those nodes stand as they did.
pub record IsFollowing (wave : Wave) (now : State) (search : Search) (node : TreeNode) : Type 0 where
  pub first : State
  pub ready : IsReady wave first search
  pub kept : IsKeptBut wave now (Some node)
  pub known : IsNode wave.tree node
  pub terms : now.terms ≡ first.terms
  pub depth : now.depth ≡ first.depth
  pub from : IsOnWay search node
  pub unshipped : place_of now search.split ≡ Unshipped
  pub flows : (c : TreeNode) → 0 < order_at search c → order_at search c < order_at search node
      → first.flow c ≤ now.flow c
  pub places : (t : ℕ) (e : End) → place_of first t ≡ Stands e → order_at search e.node < order_at search node
      → place_of now t ≡ Stands e

-- of the other splits the same are not shipped
abbrev pub AreOthersSame : State → State → ℕ → Type 0
AreOthersSame old new s = (t : ℕ) → t ≢ s → (place_of new t ≡ Unshipped) ↔ (place_of old t ≡ Unshipped)

-- the state is kept to, and the split is shipped
pub record IsShipped (wave : Wave) (now : State) (s : ℕ) : Type 0 where
  pub kept : IsKept wave now
  pub shipped : place_of now s ≢ Unshipped

-- how much of the way is left
abbrev pub left_of : Search → Option TreeNode → ℕ
left_of search None = 0
left_of search (Some v) = order_at search v + 1
