-- The ends of all splits, in groups.
use Rattle.std.specs.Prelude.{ℕ, ◌≡◌, ◌<◌, ◌↔◌, List, [], length, slice_index_or, true}
use Rattle.std.specs.Prelude.{Contains, IsTrue}
use Rattle.node_ids.specs.Sets.{is_in_row}
use Rattle.rack_tree.specs.Tree.{Tree}
use Rattle.wave_problem.specs.Wave.{Wave}
use Rattle.tree_flow.specs.declared.nodes.End.{End}
use Rattle.tree_flow.specs.declared.nodes.TreeNode.{TreeNode}
use Rattle.tree_flow.specs.declared.nodes.TreeNode.TheVariants.{Worker}
use Rattle.tree_flow.specs.Nodes.{is_under, IsEnd}
use Rattle.tree_planner.specs.declared.split_ends.Group.{Group}
use Rattle.tree_planner.specs.declared.split_ends.Group.TheVariants.{Single, Below}
use Rattle.tree_planner.specs.Hanging.{HangsFrom}

-- the worker is in the row
abbrev pub IsIn : List ℕ → ℕ → Type 0
IsIn row w = IsTrue (is_in_row row w)

-- a worker of the row stands under the node
abbrev pub IsBarred : Tree → List ℕ → TreeNode → Type 0
IsBarred tree row v = (w : ℕ) × (w < length tree.rack_of) × (is_under tree (Worker w) v ≡ true) × IsIn row w

-- the second node hangs from the first and is not left out
abbrev pub IsLeft : Tree → (TreeNode → Type 0) → TreeNode → TreeNode → Type 0
IsLeft tree Out u v = HangsFrom tree u v × (Out v → ⊥)

-- the end is of the group: its only one, or at its level a node below its node that is not left out
abbrev pub IsOf : Tree → (TreeNode → Type 0) → Group → End → Type 0
IsOf tree Out (Single x) e = x ≡ e
IsOf tree Out (Below u level) e = IsLeft tree Out u e.node × (e.level ≡ level)

-- the end is of one of the groups
pub record IsAmong (tree : Tree) (Out : TreeNode → Type 0) (groups : List Group) (e : End) : Type 0 where
  pub group : Group
  pub here : Contains groups group
  pub is_of : IsOf tree Out group e

-- the ends of a split: groups, and a row of workers. The groups leave out each node above one of these
pub record Grouped : Type 0 where
  pub groups : List Group
  pub barred : List ℕ

abbrev pub no_ends : Grouped
no_ends = record { groups = []; barred = [] }

abbrev pub HasEnd : Tree → Grouped → End → Type 0
HasEnd tree ends e = IsAmong tree (IsBarred tree ends.barred) ends.groups e

-- the ends of the split s in a list of the ends of all
abbrev pub ends_at : List Grouped → ℕ → Grouped
ends_at ends s = slice_index_or ends s no_ends

-- the lists have the ends of each split
pub record AreEnds (wave : Wave) (ends : List Grouped) : Type 0 where
  pub size : length ends ≡ length wave.splits
  pub each : (s : ℕ) (e : End) → s < length wave.splits → HasEnd wave.tree (ends_at ends s) e ↔ IsEnd wave s e
