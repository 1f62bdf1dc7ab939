-- Lists of splits, whose cells lie in one row.
use Rattle.std.specs.Prelude.{ℕ, ◌≡◌, ◌-◌, ◌<◌, ◌≤◌, List, length, slice_index_or}
use Rattle.rack_tree.specs.Tree.{Tree}
use Rattle.tree_flow.specs.declared.nodes.TreeNode.{TreeNode}
use Rattle.tree_flow.specs.declared.nodes.TreeNode.TheVariants.{Cluster}
use Rattle.tree_flow.specs.Nodes.{IsNode}
use Rattle.tree_flow.specs.Table.{at_node, IsOver}
use Rattle.tree_planner.specs.declared.lists.Cell.{Cell}
use Rattle.tree_planner.specs.declared.lists.Standing.{Standing}

abbrev pub at_cell : List Cell → ℕ → Cell
at_cell cells k = slice_index_or cells k (record { node = Cluster; split = 0; before = 0 })

-- of the first m cells the one before place n is the last of a node; at n = 0 there is none
pub record IsLast (cells : List Cell) (v : TreeNode) (n m : ℕ) : Type 0 where
  pub within : n ≤ m
  pub here : 0 < n → (at_cell cells (n - 1)).node ≡ v
  pub none : (k : ℕ) → n ≤ k → k < m → (at_cell cells k).node ≡ v → ⊥

-- each list goes from the last cell of its node to the one before it, and so on; there is room for each split
pub record AreLists (tree : Tree) (splits : ℕ) (lists : Standing) : Type 0 where
  pub over : IsOver tree lists.last
  pub room : splits ≤ length lists.cells.items
  pub within : lists.used ≤ length lists.cells.items
  pub last : (v : TreeNode) → IsNode tree v → IsLast lists.cells.items v (at_node lists.last v) lists.used
  pub before : (k : ℕ) → k < lists.used
      → IsLast lists.cells.items (at_cell lists.cells.items k).node (at_cell lists.cells.items k).before k
  pub known : (k : ℕ) → k < lists.used → (at_cell lists.cells.items k).split < splits

-- the split is on the list of the node
pub record HasListed (lists : Standing) (v : TreeNode) (s : ℕ) : Type 0 where
  pub place : ℕ
  pub used : place < lists.used
  pub node : (at_cell lists.cells.items place).node ≡ v
  pub split : (at_cell lists.cells.items place).split ≡ s
