-- A value for each node of the tree.
use Rattle.std.specs.Prelude.{ℕ, ◌≡◌, ◌<◌, length, slice_index_or}
use Rattle.rack_tree.specs.Tree.{Tree}
use Rattle.tree_flow.specs.declared.node_table.NodeTable.{NodeTable}
use Rattle.tree_flow.specs.declared.nodes.TreeNode.{TreeNode}
use Rattle.tree_flow.specs.declared.nodes.TreeNode.TheVariants.{Worker, Rack, Centre, Cluster}

-- the value at a node, or d where the table has no such node
abbrev pub at_or : {T : Type 0} → NodeTable T → T → TreeNode → T
at_or table d (Worker w) = slice_index_or table.workers.items w d
at_or table d (Rack r) = slice_index_or table.racks.items r d
at_or table d (Centre c) = slice_index_or table.centres.items c d
at_or table d Cluster = table.cluster

-- the number at a node, or 0
abbrev pub at_node : NodeTable ℕ → TreeNode → ℕ
at_node table v = at_or table 0 v

-- the table has the node
abbrev pub HasNode : {T : Type 0} → NodeTable T → TreeNode → Type 0
HasNode table (Worker w) = w < length table.workers.items
HasNode table (Rack r) = r < length table.racks.items
HasNode table (Centre c) = c < length table.centres.items
HasNode table Cluster = Unit {0}

-- the table has just the nodes of the tree
pub record IsOver {T : Type 0} (tree : Tree) (table : NodeTable T) : Type 0 where
  pub workers : length table.workers.items ≡ length tree.rack_of
  pub racks : length table.racks.items ≡ length tree.centre_of
  pub centres : length table.centres.items ≡ tree.centres

-- the tables have the same nodes
pub record IsSized {T : Type 0} (old new : NodeTable T) : Type 0 where
  pub workers : length new.workers.items ≡ length old.workers.items
  pub racks : length new.racks.items ≡ length old.racks.items
  pub centres : length new.centres.items ≡ length old.centres.items
