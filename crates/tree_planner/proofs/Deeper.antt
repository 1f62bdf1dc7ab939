-- The depths after a search.
use Rattle.std.proofs.Common.{ℕ, ◌+◌, ◌-◌, ◌^◌, ◌<◌, ◌≤◌, min, ap, subst, inl, inr, arith}
use Rattle.std.proofs.lemmas.Bool.{cases_lt}
use Rattle.rack_tree.specs.Tree.{Tree}
use Rattle.tree_flow.specs.declared.node_table.NodeTable.{NodeTable}
use Rattle.tree_flow.specs.declared.nodes.TreeNode.{TreeNode}
use Rattle.tree_planner.specs.declared.search.Search.{Search}
use Rattle.tree_flow.specs.Table.{at_node}
use Rattle.tree_planner.specs.Searching.{far_at, place_at, reached_at, HasReached}
use Rattle.tree_planner.specs.Way.{AreDeeper, IsDeeper}
use Rattle.tree_planner.proofs.Changed.{AreChanged}

-- how deep a node lies after the search, where it lay so deep
abbrev pub deeper : ℕ → Search → TreeNode → ℕ → ℕ
deeper most search v depth = min most (depth + (search.bound - far_at search v))

pub all_deeper : (tree : Tree) (search : Search) (most : ℕ) (old new : NodeTable ℕ) → HasReached tree search
    → most < 2 ^ 60 → ((v : TreeNode) → at_node old v ≤ most) → search.bound ≤ search.limit → search.limit ≤ most
    → AreChanged (deeper most search) old (reached_at search) new search.reached.count → AreDeeper most old search new
all_deeper tree search most old new r small low bound limit all v = elim (cases_lt (far_at search v) (2 ^ 60)) [
  | inl near ↦
      (let at = r.placed v near in
      subst (IsDeeper most old search new) at.1 (all.done (place_at search v) at.0))
  | inr past ↦
      (let same = all.left v (λ j m e.
      (let near = r.near j m in
      let is = ap (far_at search) e in
      omega arith)) in
      let below = low v in
      omega arith)
]
