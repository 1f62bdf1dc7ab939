-- Numbers added at a worker and at the nodes above it.
use Rattle.std.proofs.Common.{◌≡◌, ℕ, ◌+◌, ◌≤◌, Bool, true, false, cond, ap, ◌∙◌, inl, inr, arith}
use Rattle.std.proofs.Common.{slice_index, add-one}
use Rattle.std.proofs.lemmas.Bool.{eq-eqb, ne_eqb}
use Rattle.rack_tree.specs.Tree.{Tree, centre_at}
use Rattle.wave_problem.specs.Sums.{sum_below}
use Rattle.tree_flow.specs.declared.node_table.NodeTable.{NodeTable}
use Rattle.tree_flow.specs.declared.nodes.TreeNode.{TreeNode}
use Rattle.tree_flow.specs.declared.nodes.TreeNode.TheVariants.{Worker, Rack, Centre, Cluster}
use Rattle.tree_flow.specs.Nodes.{is_under}
use Rattle.tree_flow.specs.Table.{at_node, HasNode, IsOver, IsSized}
use Rattle.tree_flow.specs.Nodes.{IsNode}
use Rattle.tree_planner.specs.Events.{IsAdded}
use Rattle.tree_flow.proofs.Moved.{same_or_not}

-- a table of the tree has each node of the tree
pub has_node : {T : Type 0} (tree : Tree) (table : NodeTable T) (v : TreeNode) → IsOver tree table
    → IsNode tree v
    → HasNode table v
has_node tree table (Worker w) over l = (let size = over.workers in omega arith)
has_node tree table (Rack r) over l = (let size = over.racks in omega arith)
has_node tree table (Centre c) over l = (let size = over.centres in omega arith)
has_node tree table Cluster over l = tt

pub over_sized : {T : Type 0} (tree : Tree) (old new : NodeTable T) → IsOver tree old → IsSized old new
    → IsOver tree new
over_sized tree old new over sized = record {
  workers = sized.workers ∙ over.workers;
  racks = sized.racks ∙ over.racks;
  centres = sized.centres ∙ over.centres;
}

pub cond-le : (b : Bool) (n : ℕ) → cond b n 0 ≤ n
cond-le true n = omega arith
cond-le false n = omega arith

pub next_sum : (n : ℕ) (f : ℕ → ℕ) → sum_below (n + 1) f ≡ sum_below n f + f n
next_sum n f = ap (λ (m : ℕ). sum_below m f) (add-one n)

module _ (tree : Tree) (w more : ℕ) (a b c d e : NodeTable ℕ)
    (one : IsAdded a b (Worker w) more) (two : IsAdded b c (Rack (slice_index tree.rack_of w)) more)
    (three : IsAdded c d (Centre (centre_at tree w)) more) (four : IsAdded d e Cluster more) where
  pub added_above : (v : TreeNode) → at_node e v ≡ at_node a v + cond (is_under tree (Worker w) v) more 0
  added_above (Worker x) =
      let last = four.1 (Worker x) (λ s. cc) in
      let third = three.1 (Worker x) (λ s. cc) in
      let second = two.1 (Worker x) (λ s. cc) in
      elim (same_or_not (Worker x) (Worker w)) [
        | inl s ↦
            (let here = one.0 in
            let p = ap (at_node a) s in
            let q = ap (at_node b) s in
            rw (eq-eqb x w (grind arith)) (omega arith))
        | inr n ↦ (let first = one.1 (Worker x) n in rw (ne_eqb x w (λ s. n (ap Worker s))) (omega arith))
      ]
  added_above (Rack x) =
      let last = four.1 (Rack x) (λ s. cc) in
      let third = three.1 (Rack x) (λ s. cc) in
      let first = one.1 (Rack x) (λ s. cc) in
      elim (same_or_not (Rack x) (Rack (slice_index tree.rack_of w))) [
        | inl s ↦
            (let here = two.0 in
            let p = ap (at_node b) s in
            let q = ap (at_node c) s in
            rw (eq-eqb x (slice_index tree.rack_of w) (grind arith)) (omega arith))
        | inr n ↦
            (let second = two.1 (Rack x) n in
            rw (ne_eqb x (slice_index tree.rack_of w) (λ s. n (ap Rack s))) (omega arith))
      ]
  added_above (Centre x) =
      let last = four.1 (Centre x) (λ s. cc) in
      let second = two.1 (Centre x) (λ s. cc) in
      let first = one.1 (Centre x) (λ s. cc) in
      elim (same_or_not (Centre x) (Centre (centre_at tree w))) [
        | inl s ↦
            (let here = three.0 in
            let p = ap (at_node c) s in
            let q = ap (at_node d) s in
            rw (eq-eqb x (centre_at tree w) (grind arith)) (omega arith))
        | inr n ↦
            (let third = three.1 (Centre x) n in
            rw (ne_eqb x (centre_at tree w) (λ s. n (ap Centre s))) (omega arith))
      ]
  added_above Cluster =
      let last = four.0 in
      let third = three.1 Cluster (λ s. cc) in
      let second = two.1 Cluster (λ s. cc) in
      let first = one.1 Cluster (λ s. cc) in
      omega arith
