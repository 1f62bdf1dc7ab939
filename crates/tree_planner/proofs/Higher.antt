-- The depths after a search back.
use Rattle.std.proofs.Common.{ℕ, ◌-◌, ◌^◌, ◌≤◌, length, ap, subst, inl, inr, arith}
use Rattle.std.proofs.lemmas.Bool.{cases_lt}
use Rattle.rack_tree.specs.Tree.{Tree}
use Rattle.tree_flow.specs.declared.node_table.NodeTable.{NodeTable}
use Rattle.tree_flow.specs.declared.nodes.TreeNode.{TreeNode}
use Rattle.tree_planner.specs.declared.back.SearchBack.{SearchBack}
use Rattle.tree_planner.specs.Reaching.{node_in, IsRow}
use Rattle.tree_planner.specs.SearchingBack.{far_at}
use Rattle.tree_planner.specs.WayBack.{AreHigher, IsHigher}
use Rattle.tree_planner.proofs.Changed.{AreChanged}

-- how deep a node lies after the search, where it lay so deep
abbrev pub higher : SearchBack → TreeNode → ℕ → ℕ
higher search v depth = depth - (search.bound - far_at search v)

pub all_higher : (tree : Tree) (search : SearchBack) (old new : NodeTable ℕ)
    → IsRow tree (far_at search) search.reached.items → search.bound ≤ 2 ^ 60
    → AreChanged (higher search) old (node_in search.reached.items) new (length search.reached.items)
    → AreHigher old search new
all_higher tree search old new r bound all v = elim (cases_lt (far_at search v) (2 ^ 60)) [
  | inl near ↦
      (let at = r.placed v near in
      subst (IsHigher old search new) at.2 (all.done at.0 at.1))
  | inr past ↦
      (let same = all.left v (λ j m e.
      (let near = r.near j m in
      let is = ap (far_at search) e in
      omega arith)) in
      omega arith)
]
