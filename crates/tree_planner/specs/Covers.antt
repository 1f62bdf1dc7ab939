-- What a search knows of the nodes that hang from another.
use Rattle.std.specs.Prelude.{◌^◌, ◌≡◌, ◌<◌, length}
use Rattle.rack_tree.specs.Tree.{Tree}
use Rattle.tree_flow.specs.declared.node_table.NodeTable.{NodeTable}
use Rattle.tree_flow.specs.declared.nodes.TreeNode.{TreeNode}
use Rattle.tree_flow.specs.declared.nodes.TreeNode.TheVariants.{Worker, Rack, Centre, Cluster}
use Rattle.tree_planner.specs.declared.covers.Cover.{Cover}

-- nothing: their distance with the reward is past twice the reward
abbrev pub no_cover : Cover
no_cover = record { offset = 2 ^ 61; split = 0 }

-- the tree has the node, and it is no worker
abbrev pub IsInner : Tree → TreeNode → Type 0
IsInner tree (Worker w) = ⊥
IsInner tree (Rack r) = r < length tree.centre_of
IsInner tree (Centre c) = c < tree.centres
IsInner tree Cluster = Unit {0}

-- the table has just the nodes of the tree that are no workers
pub record IsOverInner {T : Type 0} (tree : Tree) (table : NodeTable T) : Type 0 where
  pub racks : length table.racks.items ≡ length tree.centre_of
  pub centres : length table.centres.items ≡ tree.centres
