-- The nodes of the tree, and on which of them a split may stand.
use Rattle.std.specs.Prelude.{ℕ, zero, suc, ◌≡◌, ◌*◌, ◌<◌, ◌≤◌, ◌==◌, Bool, true, false, length, slice_index, Contains, All, List}
use Rattle.std.specs.Prelude.{◌⊎◌}
use Rattle.node_ids.specs.Sets.{HasPair}
use Rattle.rack_tree.specs.Tree.{Tree, centre_at, reach}
use Rattle.wave_problem.specs.Wave.{Wave, split_at, live_holders}
use Rattle.tree_flow.specs.declared.nodes.End.{End}
use Rattle.tree_flow.specs.declared.nodes.TreeNode.{TreeNode}
use Rattle.tree_flow.specs.declared.nodes.TreeNode.TheVariants.{Worker, Rack, Centre, Cluster}

-- the node from which a node hangs; the cluster's hangs from none
abbrev pub parent : Tree → TreeNode → TreeNode
parent tree (Worker w) = Rack (slice_index tree.rack_of w)
parent tree (Rack r) = Centre (slice_index tree.centre_of r)
parent tree (Centre c) = Cluster
parent tree Cluster = Cluster

-- the first is the second, or hangs below it
abbrev pub is_under : Tree → TreeNode → TreeNode → Bool
is_under tree v Cluster = true
is_under tree (Worker w) (Centre c) = c == centre_at tree w
is_under tree (Rack r) (Centre c) = c == slice_index tree.centre_of r
is_under tree (Centre d) (Centre c) = c == d
is_under tree (Worker w) (Rack r) = r == slice_index tree.rack_of w
is_under tree (Rack q) (Rack r) = r == q
is_under tree (Worker v) (Worker w) = w == v
is_under tree v u = false

-- the node so many levels above a worker
abbrev pub node_above : Tree → ℕ → ℕ → TreeNode
node_above tree zero w = Worker w
node_above tree (suc zero) w = Rack (slice_index tree.rack_of w)
node_above tree (suc (suc zero)) w = Centre (centre_at tree w)
node_above tree (suc (suc (suc level))) w = Cluster

-- the tree has the node
abbrev pub IsNode : Tree → TreeNode → Type 0
IsNode tree (Worker w) = w < length tree.rack_of
IsNode tree (Rack r) = r < length tree.centre_of
IsNode tree (Centre c) = c < tree.centres
IsNode tree Cluster = Unit {0}

-- these are the nodes of the tree
pub record AreNodes (tree : Tree) (nodes : List TreeNode) : Type 0 where
  pub known : All (IsNode tree) nodes
  pub each : (v : TreeNode) → IsNode tree v → Contains nodes v

-- each worker has a line and stands in one of the racks, and each rack in one of the centres
pub record IsKnown (wave : Wave) : Type 0 where
  pub lines : length wave.workers ≡ length wave.tree.rack_of
  pub racks : (w : ℕ) → w < length wave.workers
      → slice_index wave.tree.rack_of w < length wave.tree.centre_of
  pub centres : (r : ℕ) → r < length wave.tree.centre_of → slice_index wave.tree.centre_of r < wave.tree.centres

-- a worker under the node is barred for s
abbrev pub HasBarUnder : Wave → ℕ → TreeNode → Type 0
HasBarUnder wave s v = (w : ℕ) × (w < length wave.workers) × (is_under wave.tree (Worker w) v ≡ true)
    × HasPair wave.barred s w

-- An end of s is a node on which it may stand. Take a node above a live holder of s, no farther up than the
-- tree reaches. If it has no barred worker under it, it is an end. Else the ends are the largest nodes under
-- it that have none.
pub record IsEnd (wave : Wave) (s : ℕ) (e : End) : Type 0 where
  pub pending : (split_at wave s).pending ≡ true
  pub known : IsNode wave.tree e.node
  pub level : 2 * e.level ≤ reach wave.tree
  pub holder : ℕ
  pub held : Contains (live_holders wave s) holder
  pub near : is_under wave.tree e.node (node_above wave.tree e.level holder) ≡ true
  pub no_bar : HasBarUnder wave s e.node → ⊥
  pub largest : (e.node ≡ node_above wave.tree e.level holder) ⊎ HasBarUnder wave s (parent wave.tree e.node)

-- what it costs s to stand there: no start on a worker under the node costs more
abbrev pub end_cost : Wave → ℕ → End → ℕ
end_cost wave s e = (split_at wave s).bytes * (2 * e.level)
