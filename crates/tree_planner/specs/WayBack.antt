-- The way of a hole that a search back found, along which units are moved until it is filled.
use Rattle.std.specs.Prelude.{ℕ, ◌≡◌, ◌≢◌, ◌-◌, ◌^◌, ◌<◌, ◌≤◌, ◌↔◌, Some}
use Rattle.wave_problem.specs.Wave.{Wave}
use Rattle.tree_flow.specs.declared.node_table.NodeTable.{NodeTable}
use Rattle.tree_flow.specs.declared.nodes.End.{End}
use Rattle.tree_flow.specs.declared.nodes.Place.TheVariants.{Stands, Unshipped, Waits}
use Rattle.tree_flow.specs.declared.nodes.TreeNode.{TreeNode}
use Rattle.tree_flow.specs.declared.nodes.TreeNode.TheVariants.{Cluster}
use Rattle.tree_planner.specs.declared.back.Rest.{Rest}
use Rattle.tree_planner.specs.declared.back.Rest.TheVariants.{Free, Join}
use Rattle.tree_planner.specs.declared.back.SearchBack.{SearchBack}
use Rattle.tree_planner.specs.declared.back.StepBack.{StepBack}
use Rattle.tree_planner.specs.declared.back.StepBack.TheVariants.{Start, Rise, Sink, Over}
use Rattle.tree_flow.specs.Nodes.{parent, IsEnd, IsNode}
use Rattle.tree_flow.specs.State.{State, place_of, reach_cost, IsKeptBut}
use Rattle.tree_flow.specs.Table.{at_node}
use Rattle.tree_planner.specs.SearchingBack.{far_at, order_at, step_at}

-- a node nearer than the bound lies higher by the rest than it did
abbrev pub IsHigher : NodeTable ℕ → SearchBack → NodeTable ℕ → TreeNode → Type 0
IsHigher old search new v = at_node new v ≡ at_node old v - (search.bound - far_at search v)

abbrev pub AreHigher : NodeTable ℕ → SearchBack → NodeTable ℕ → Type 0
AreHigher old search new = (v : TreeNode) → IsHigher old search new v

-- the search has looked from the node, and a way over it may end at the bound
pub record IsOnWay (search : SearchBack) (v : TreeNode) : Type 0 where
  pub settled : 0 < order_at search v
  pub reached : far_at search v < 2 ^ 60
  pub near : far_at search v ≤ search.bound

-- the steps to a node that cost nothing, from one that was looked from before
pub record GoesUpTight (wave : Wave) (state : State) (search : SearchBack) (x c : TreeNode) : Type 0 where
  pub known : IsNode wave.tree c
  pub hangs : c ≢ Cluster
  pub above : parent wave.tree c ≡ x
  pub tight : state.depth x ≡ state.depth c
  pub from : IsOnWay search c
  pub before : order_at search c < order_at search x

pub record GoesDownTight (wave : Wave) (state : State) (search : SearchBack) (x : TreeNode) : Type 0 where
  pub hangs : x ≢ Cluster
  pub tight : state.depth (parent wave.tree x) ≡ state.depth x
  pub some : 0 < state.flow x
  pub from : IsOnWay search (parent wave.tree x)
  pub before : order_at search (parent wave.tree x) < order_at search x

pub record GoesOverTight (wave : Wave) (state : State) (search : SearchBack) (x : TreeNode) (t : ℕ) (to : End)
    : Type 0 where
  pub end : End
  pub stands : place_of state t ≡ Stands end
  pub at : end.node ≡ x
  pub is_end : IsEnd wave t to
  pub tight : reach_cost wave state t to ≡ reach_cost wave state t end
  pub from : IsOnWay search to.node
  pub before : order_at search to.node < order_at search x

abbrev pub IsTight : Wave → State → SearchBack → TreeNode → StepBack → Type 0
IsTight wave state search x Start = x ≡ search.hole
IsTight wave state search x (Rise c) = GoesUpTight wave state search x c
IsTight wave state search x Sink = GoesDownTight wave state search x
IsTight wave state search x (Over t to) = GoesOverTight wave state search x t to

-- all that is under the node lies at 0 where units go
pub record FreeIsTight (wave : Wave) (state : State) (search : SearchBack) (v : TreeNode) : Type 0 where
  pub known : IsNode wave.tree v
  pub bottom : state.depth v ≡ 0
  pub from : IsOnWay search v

pub record JoinIsTight (wave : Wave) (state : State) (search : SearchBack) (t : ℕ) (to : End) : Type 0 where
  pub waits : place_of state t ≡ Waits
  pub is_end : IsEnd wave t to
  pub tight : reach_cost wave state t to ≡ state.terms.worth
  pub from : IsOnWay search to.node

-- and the end of the way costs nothing
abbrev pub IsTightRest : Wave → State → SearchBack → Rest → Type 0
IsTightRest wave state search (Free v) = FreeIsTight wave state search v
IsTightRest wave state search (Join t to) = JoinIsTight wave state search t to

-- a state in which the whole way of the hole costs nothing
pub record IsReady (wave : Wave) (state : State) (search : SearchBack) : Type 0 where
  pub kept : IsKeptBut wave state (Some search.hole)
  pub steps : (v : TreeNode) → IsOnWay search v → IsTight wave state search v (step_at search v)
  pub goal : IsTightRest wave state search search.goal

-- the depth of one node has changed, and nothing else
pub record IsDepthSet (old new : State) (c : TreeNode) (depth : ℕ) : Type 0 where
  pub terms : new.terms ≡ old.terms
  pub places : new.places ≡ old.places
  pub flow : new.flow ≡ old.flow
  pub free : new.free ≡ old.free
  pub here : new.depth c ≡ depth
  pub others : (v : TreeNode) → v ≢ c → new.depth v ≡ old.depth v

-- the same splits are not shipped
abbrev pub AreAllSame : State → State → Type 0
AreAllSame old new = (t : ℕ) → (place_of new t ≡ Unshipped) ↔ (place_of old t ≡ Unshipped)

-- The hole has moved to a node; what is looked from after that, and what waits, is as it was at first.
pub record HasMoved (wave : Wave) (first now : State) (search : SearchBack) (node : TreeNode) : Type 0 where
  pub kept : IsKeptBut wave now (Some node)
  pub terms : now.terms ≡ first.terms
  pub depth : now.depth ≡ first.depth
  pub free : now.free ≡ first.free
  pub unshipped : AreAllSame first now
  pub waits : (t : ℕ) → place_of first t ≡ Waits → place_of now t ≡ Waits
  pub flows : (c : TreeNode) → order_at search node < order_at search c → now.flow c ≡ first.flow c
  pub places : (t : ℕ) (e : End) → place_of first t ≡ Stands e → order_at search node < order_at search e.node
      → place_of now t ≡ Stands e
