-- The row of the nodes that a search has come to.
use Rattle.std.specs.Prelude.{ℕ, zero, suc, ◌≡◌, ◌≢◌, ◌+◌, ◌*◌, ◌/◌, ◌^◌, ◌<◌, ◌≤◌, [], ◌∷◌, ◌++◌, List, length}
use Rattle.std.specs.Prelude.{Bool, count_by, nat_lt, slice_index_or, slice_set}
use Rattle.rack_tree.specs.Tree.{Tree}
use Rattle.tree_flow.specs.declared.nodes.TreeNode.{TreeNode}
use Rattle.tree_flow.specs.declared.nodes.TreeNode.TheVariants.{Centre, Cluster, Rack, Worker}
use Rattle.tree_flow.specs.Nodes.{IsNode}
use Rattle.tree_flow.specs.Table.{at_node, HasNode, IsSized}
use Rattle.tree_planner.specs.declared.reached.LowBlock.{LowBlock}
use Rattle.tree_planner.specs.declared.reached.Reached.{Reached}

-- the place of a node in the row
abbrev pub place_in : Reached → TreeNode → ℕ
place_in row v = at_node row.places v

-- the floor of a block of 32 places: no node there that the search has not looked from is nearer
abbrev pub floor_in : Reached → ℕ → ℕ
floor_in row block = slice_index_or row.floors.items block 0

-- a node, so far away before, has a place in the row, or there is room for it
pub record HasRoom (row : Reached) (v : TreeNode) (before : ℕ) : Type 0 where
  pub node : HasNode row.places v
  pub fresh : 2 ^ 60 ≤ before → row.count < length row.nodes.items
  pub placed : before < 2 ^ 60 → place_in row v < length row.nodes.items
  pub floors : length row.nodes.items < 32 * length row.floors.items

-- the node comes last in the row
pub record ComesLast (old new : Reached) (v : TreeNode) : Type 0 where
  pub count : new.count ≡ old.count + 1
  pub nodes : new.nodes.items ≡ slice_set old.nodes.items old.count v
  pub place : place_in new v ≡ old.count

-- a node that was so far away before was noted at a distance; no floor of a block in use rises
pub record IsNoted (old new : Reached) (v : TreeNode) (before distance : ℕ) : Type 0 where
  pub fresh : 2 ^ 60 ≤ before → ComesLast old new v
  pub same : before < 2 ^ 60 → new ≡ record old { floors = new.floors }
  pub others : (u : TreeNode) → u ≢ v → place_in new u ≡ place_in old u
  pub size : IsSized old.places new.places
  pub blocks : length new.floors.items ≡ length old.floors.items
  pub here : floor_in new (place_in new v / 32) ≤ distance
  pub lower : (block : ℕ) → block * 32 < old.count → floor_in new block ≤ floor_in old block

-- no block in use has a lower floor than this one, and no other block has a lower floor than the next
pub record IsLowest (row : Reached) (low : LowBlock) (below : ℕ) : Type 0 where
  pub used : low.block * 32 < row.count
  pub floor : low.floor ≡ floor_in row low.block
  pub near : low.floor < below
  pub most : low.next ≤ below
  pub least : (block : ℕ) → block * 32 < row.count → low.floor ≤ floor_in row block
  pub next : (block : ℕ) → block * 32 < row.count → block ≢ low.block → low.next ≤ floor_in row block

-- the nodes of the numbers below n, before others
abbrev pub numbered : (ℕ → TreeNode) → ℕ → List TreeNode → List TreeNode
numbered node zero others = others
numbered node (suc n) others = node n ∷ numbered node n others

-- all nodes of a tree
abbrev pub all_of : Tree → List TreeNode
all_of tree = numbered Worker (length tree.rack_of)
    (numbered Rack (length tree.centre_of) (numbered Centre tree.centres (Cluster ∷ [])))

-- how many they are
abbrev pub node_count : Tree → ℕ
node_count tree = length tree.rack_of + length tree.centre_of + tree.centres + 1

-- whether a node is nearer than 2 ^ 60, a distance past all ways
abbrev pub is_reached : (TreeNode → ℕ) → TreeNode → Bool
is_reached far v = nat_lt (far v) (2 ^ 60)

-- the node in a row that stands after k others
abbrev pub node_in : List TreeNode → ℕ → TreeNode
node_in row k = slice_index_or row k (Worker 0)

-- a node stands in a row
abbrev pub StandsIn : List TreeNode → TreeNode → Type 0
StandsIn row v = (k : ℕ) × (k < length row) × (node_in row k ≡ v)

-- the reached nodes stand in a row, each once, and no other node does
pub record IsRow (tree : Tree) (far : TreeNode → ℕ) (row : List TreeNode) : Type 0 where
  pub known : (k : ℕ) → k < length row → IsNode tree (node_in row k)
  pub near : (k : ℕ) → k < length row → far (node_in row k) < 2 ^ 60
  pub once : (j k : ℕ) → j < k → k < length row → node_in row j ≢ node_in row k
  pub placed : (v : TreeNode) → far v < 2 ^ 60 → StandsIn row v
  pub fit : length row ≤ count_by (is_reached far) (all_of tree)

-- a node that was so far away before comes last in the row, unless it stands there already
pub record IsAdded (old new : List TreeNode) (v : TreeNode) (before : ℕ) : Type 0 where
  pub fresh : 2 ^ 60 ≤ before → new ≡ old ++ v ∷ []
  pub same : before < 2 ^ 60 → new ≡ old
