-- Under which nodes workers are barred for a split, and the ends that this leaves it.
use Rattle.std.specs.Prelude.{ℕ, ◌≡◌, ◌*◌, ◌<◌, ◌≤◌, ◌⊎◌, ◌↔◌, Bool, true, false, Option, Some, None}
use Rattle.std.specs.Prelude.{IfSome, List, slice_index_or}
use Rattle.rack_tree.specs.Tree.{reach}
use Rattle.wave_problem.specs.Wave.{Wave, worker_at}
use Rattle.tree_flow.specs.declared.node_table.NodeTable.{NodeTable}
use Rattle.tree_flow.specs.declared.nodes.End.{End}
use Rattle.tree_flow.specs.declared.nodes.TreeNode.{TreeNode}
use Rattle.tree_flow.specs.Nodes.{is_under, node_above, parent, HasBarUnder, IsNode}
use Rattle.tree_flow.specs.Table.{at_or, IsOver}
use Rattle.tree_planner.specs.declared.split_ends.Group.{Group}
use Rattle.tree_planner.specs.Ends.{IsAmong}

-- whether the table marks the node; no table marks none
abbrev pub bar_at : Option (NodeTable Bool) → TreeNode → Bool
bar_at None v = false
bar_at (Some table) v = at_or table false v

-- the nodes are marked under which workers are barred
pub record AreBars (wave : Wave) (s : ℕ) (bars : Option (NodeTable Bool)) : Type 0 where
  pub over : IfSome bars (λ table. IsOver wave.tree table)
  pub each : (v : TreeNode) → IsNode wave.tree v → (bar_at bars v ≡ true) ↔ HasBarUnder wave s v

-- the end is the node of another, or one of the largest nodes under it without bars, at its level
pub record IsTopEnd (wave : Wave) (s : ℕ) (top e : End) : Type 0 where
  pub known : IsNode wave.tree e.node
  pub level : e.level ≡ top.level
  pub near : is_under wave.tree e.node top.node ≡ true
  pub no_bar : HasBarUnder wave s e.node → ⊥
  pub largest : (e.node ≡ top.node) ⊎ HasBarUnder wave s (parent wave.tree e.node)

-- the end at a node so many levels above a worker
abbrev pub top_of : Wave → ℕ → ℕ → End
top_of wave w level = record { node = node_above wave.tree level w; level = level }

-- so it is with a node above a live holder, no farther up than the tree reaches
pub record IsLevelEnd (wave : Wave) (s holder : ℕ) (e : End) : Type 0 where
  pub live : (worker_at wave holder).live ≡ true
  pub level : ℕ
  pub within : 2 * level ≤ reach wave.tree
  pub top : IsTopEnd wave s (top_of wave holder level) e

-- the number at a place of a list
abbrev pub holder_at : List ℕ → ℕ → ℕ
holder_at holders k = slice_index_or holders k 0

-- the end is of one of the groups, which leave out the nodes with bars
abbrev pub HasEndFor : Wave → ℕ → List Group → End → Type 0
HasEndFor wave s groups e = IsAmong wave.tree (HasBarUnder wave s) groups e

-- the ends of the first k holders are there
abbrev pub AreMet : Wave → ℕ → List ℕ → ℕ → List Group → Type 0
AreMet wave s holders k groups = (j : ℕ) (e : End) → j < k → IsLevelEnd wave s (holder_at holders j) e
    → HasEndFor wave s groups e

-- the holder lives, and the end's node is the one above it at the end's level
pub record IsLiveUnder (wave : Wave) (holder : ℕ) (top : End) : Type 0 where
  pub live : (worker_at wave holder).live ≡ true
  pub above : node_above wave.tree top.level holder ≡ top.node
