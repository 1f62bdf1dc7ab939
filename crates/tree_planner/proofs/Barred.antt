-- Under which nodes workers are barred.
use Rattle.std.proofs.Common.{◌≡◌, ℕ, ◌+◌, ◌<◌, Bool, true, false, cond, refl, ap, ◌∙◌}
use Rattle.std.proofs.Common.{sym, ◌⊎◌, List, [], get_or, subst, inl, inr, ◌↔◌, arith, length, slice_index}
use Rattle.std.proofs.lemmas.List.{get_or_default}
use Rattle.std.proofs.lemmas.List.Folds.{list_any_at, Any-from_list_any}
use Rattle.std.specs.Prelude.{◌≢◌, ◌==◌, IfSome, Option, Some, None, slice_index_or}
use Rattle.tree_planner.specs.Ends.{IsIn}
use Rattle.std.proofs.lemmas.Bool.{eq-eqb, eqb-true, ne_eqb, false≢true}
use Rattle.rack_tree.specs.Tree.{Tree, centre_at}
use Rattle.wave_problem.specs.Wave.{Wave}
use Rattle.tree_flow.specs.declared.node_table.NodeTable.{NodeTable}
use Rattle.tree_flow.specs.declared.nodes.TreeNode.{TreeNode}
use Rattle.tree_flow.specs.declared.nodes.TreeNode.TheVariants.{Worker, Rack, Centre, Cluster}
use Rattle.tree_flow.specs.Nodes.{is_under, HasBarUnder, IsNode}
use Rattle.tree_flow.specs.Table.{at_or, HasNode, IsOver, IsSized}
use Rattle.tree_planner.proofs.Added.{has_node, over_sized}
use Rattle.tree_planner.proofs.Tops.{from_below}
use Rattle.tree_flow.proofs.Moved.{same_or_not}

-- a table of marks, if there is one, has each node of the tree
pub has_entry : (tree : Tree) (bars : Option (NodeTable Bool)) (v : TreeNode)
    → IfSome bars (λ table. IsOver tree table) → IsNode tree v → IfSome bars (λ table. HasNode table v)
has_entry tree None v over known = tt
has_entry tree (Some table) v over known = has_node tree table v over known

-- one node was marked
abbrev pub IsMarked : NodeTable Bool → NodeTable Bool → TreeNode → Type 0
IsMarked old new node = (at_or new false node ≡ true)
    × ((v : TreeNode) → v ≢ node → at_or new false v ≡ at_or old false v)

module _ (tree : Tree) (w : ℕ) (a b c d e : NodeTable Bool)
    (one : IsMarked a b (Worker w)) (two : IsMarked b c (Rack (slice_index tree.rack_of w)))
    (three : IsMarked c d (Centre (centre_at tree w))) (four : IsMarked d e Cluster) where
  pub marked_above : (v : TreeNode) → at_or e false v ≡ cond (is_under tree (Worker w) v) true (at_or a false v)
  marked_above (Worker x) =
      four.1 (Worker x) (λ s. cc) ∙ three.1 (Worker x) (λ s. cc) ∙ two.1 (Worker x) (λ s. cc)
      ∙ elim (same_or_not (Worker x) (Worker w)) [
        | inl s ↦ rw (eq-eqb x w (grind arith)) (ap (at_or b false) s ∙ one.0)
        | inr n ↦ rw (ne_eqb x w (λ s. n (ap Worker s))) (one.1 (Worker x) n)
      ]
  marked_above (Rack x) =
      four.1 (Rack x) (λ s. cc) ∙ three.1 (Rack x) (λ s. cc)
      ∙ elim (same_or_not (Rack x) (Rack (slice_index tree.rack_of w))) [
        | inl s ↦ rw (eq-eqb x (slice_index tree.rack_of w) (grind arith)) (ap (at_or c false) s ∙ two.0)
        | inr n ↦ rw (ne_eqb x (slice_index tree.rack_of w) (λ s. n (ap Rack s)))
            (two.1 (Rack x) n ∙ one.1 (Rack x) (λ s. cc))
      ]
  marked_above (Centre x) =
      four.1 (Centre x) (λ s. cc)
      ∙ elim (same_or_not (Centre x) (Centre (centre_at tree w))) [
        | inl s ↦ rw (eq-eqb x (centre_at tree w) (grind arith)) (ap (at_or d false) s ∙ three.0)
        | inr n ↦ rw (ne_eqb x (centre_at tree w) (λ s. n (ap Centre s)))
            (three.1 (Centre x) n ∙ two.1 (Centre x) (λ s. cc) ∙ one.1 (Centre x) (λ s. cc))
      ]
  marked_above Cluster = four.0

-- a worker is in a row just where it stands at a place of it
pub in_row-at : (row : List ℕ) (w k : ℕ) → k < length row → get_or row k 0 ≡ w → IsIn row w
in_row-at row w k few is = list_any_at (λ v. v == w) row k 0 few (eq-eqb (get_or row k 0) w is)

pub at_in_row : (row : List ℕ) (w : ℕ) → IsIn row w → (k : ℕ) × (k < length row) × (get_or row k 0 ≡ w)
at_in_row row w there =
    let any = Any-from_list_any (λ v. v == w) row there in (
      any.0,
      any.2,
      get_or_default row any.0 0 any.1 any.2 ∙ any.3 ∙ eqb-true any.1 w any.4,
    )

-- the worker at a place of a row is the tree's and stands under the node
abbrev pub IsBarAt : Wave → TreeNode → List ℕ → ℕ → Type 0
IsBarAt wave v row k = (get_or row k 0 < length wave.workers)
    × (is_under wave.tree (Worker (get_or row k 0)) v ≡ true)

-- a mark that is put where a worker stands under the node
pub marked_iff : (under before : Bool) → (cond under true before ≡ true) ↔ ((before ≡ true) ⊎ (under ≡ true))
marked_iff true before = (λ is. inr refl, λ either. refl)
marked_iff false before = (
  λ is. inl is,
  λ either. elim either [
    | inl is ↦ is
    | inr off ↦ absurd (false≢true off)
  ],
)

-- the table has the nodes above the first n workers of a row marked
pub record AreMarked (wave : Wave) (row : List ℕ) (n : ℕ) (bars : NodeTable Bool) : Type 0 where
  pub over : IsOver wave.tree bars
  pub each : (v : TreeNode) → (at_or bars false v ≡ true) ↔ ((k : ℕ) × (k < n) × IsBarAt wave v row k)

module _ (wave : Wave) (row : List ℕ) (n : ℕ) (old : NodeTable Bool) (marked : AreMarked wave row n old) where
  pub mark_next : (new : NodeTable Bool) → get_or row n 0 < length wave.workers → IsSized old new
      → ((v : TreeNode) → at_or new false v
      ≡ cond (is_under wave.tree (Worker (get_or row n 0)) v) true (at_or old false v))
      → AreMarked wave row (n + 1) new
  mark_next new known sized same = record {
    over = over_sized wave.tree old new marked.over sized;
    each = λ v.
        (let iff = marked_iff (is_under wave.tree (Worker (get_or row n 0)) v) (at_or old false v) in
        from_below (IsBarAt wave v row) n (
          λ is. elim (iff.0 (sym (same v) ∙ is)) [
            | inl before ↦ inl before
            | inr under ↦ inr (known, under)
          ],
          λ either. same v ∙ iff.1 (elim either [
            | inl before ↦ inl before
            | inr bar ↦ inr bar.1
          ]),
        ) (marked.each v));
  }

  pub skip_next : (get_or row n 0 < length wave.workers → ⊥) → AreMarked wave row (n + 1) old
  skip_next past = record {
    over = marked.over;
    each = λ v. from_below (IsBarAt wave v row) n (
      λ is. inl is,
      λ either. elim either [
        | inl before ↦ before
        | inr bar ↦ absurd (past bar.0)
      ],
    ) (marked.each v);
  }

-- the workers of the split's row are its bars
pub bar_iff : (wave : Wave) (s : ℕ) (row : List ℕ) → row ≡ slice_index_or wave.barred s [] → (v : TreeNode)
    → ((k : ℕ) × (k < length row) × IsBarAt wave v row k) ↔ HasBarUnder wave s v
bar_iff wave s row is v = (
  λ at. (
    get_or row at.0 0,
    at.2.0,
    at.2.1,
    subst (λ xs. IsIn xs (get_or row at.0 0)) is (in_row-at row (get_or row at.0 0) at.0 at.1 refl),
  ),
  λ b. (let there = at_in_row row b.0 (subst (λ xs. IsIn xs b.0) (sym is) b.3) in (
    there.0,
    there.1,
    (
      subst (λ (w : ℕ). w < length wave.workers) (sym there.2) b.1,
      subst (λ (w : ℕ). is_under wave.tree (Worker w) v ≡ true) (sym there.2) b.2,
    ),
  )),
)
