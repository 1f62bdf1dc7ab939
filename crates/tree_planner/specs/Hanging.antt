-- The nodes that hang from each node, in rows.
use Rattle.std.specs.Prelude.{ℕ, ◌≡◌, ◌≢◌, ◌↔◌, List, [], length, slice_index_or, Contains}
use Rattle.rack_tree.specs.Tree.{Tree}
use Rattle.tree_flow.specs.declared.nodes.TreeNode.{TreeNode}
use Rattle.tree_flow.specs.declared.nodes.TreeNode.TheVariants.{Worker, Rack, Centre, Cluster}
use Rattle.tree_flow.specs.Nodes.{parent, IsNode}
use Rattle.tree_planner.specs.declared.children.Children.{Children}

abbrev pub row_at : List (List TreeNode) → ℕ → List TreeNode
row_at rows k = slice_index_or rows k []

-- the row of a node
abbrev pub hanging : Children → TreeNode → List TreeNode
hanging children (Worker w) = children.worker
hanging children (Rack r) = row_at children.racks.items r
hanging children (Centre c) = row_at children.centres.items c
hanging children Cluster = children.cluster

-- the second node hangs from the first
pub record HangsFrom (tree : Tree) (u v : TreeNode) : Type 0 where
  pub known : IsNode tree v
  pub below : v ≢ Cluster
  pub above : parent tree v ≡ u

-- each rack and each centre has a row
pub record AreSized (tree : Tree) (children : Children) : Type 0 where
  pub racks : length children.racks.items ≡ length tree.centre_of
  pub centres : length children.centres.items ≡ tree.centres

-- the row of each node has the nodes that hang from it, and no others
pub record AreChildren (tree : Tree) (children : Children) : Type 0 where
  pub sized : AreSized tree children
  pub each : (u v : TreeNode) → Contains (hanging children u) v ↔ HangsFrom tree u v
