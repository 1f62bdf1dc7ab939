-- A node hung from its parent.
use Rattle.std.proofs.Common.{◌≡◌, ℕ, ◌+◌, ◌<◌, ◌++◌, ◌∷◌, [], List, length, Contains, ◌↔◌, ◌⊎◌, inl, inr, sym, ap, ◌∙◌, subst}
use Rattle.std.proofs.Common.{arith, refl, slice_set, take, get_or, get_or-set_same, get_or-set_other}
use Rattle.std.specs.Prelude.{◌≢◌}
use Rattle.std.proofs.lemmas.List.Elements.{Contains-push, Contains-append_left, Contains-push_cases}
use Rattle.rack_tree.specs.Tree.{Tree}
use Rattle.tree_flow.specs.declared.nodes.TreeNode.{TreeNode}
use Rattle.tree_flow.specs.declared.nodes.TreeNode.TheVariants.{Worker, Rack, Centre, Cluster}
use Rattle.tree_flow.specs.Nodes.{parent}
use Rattle.tree_flow.proofs.Moved.{same_or_not}
use Rattle.tree_planner.specs.declared.children.Children.{Children}
use Rattle.tree_planner.specs.Hanging.{hanging, row_at, HangsFrom}

pub hung : (tree : Tree) (old new : Children) (node p : TreeNode) → HangsFrom tree p node
    → hanging new p ≡ hanging old p ++ node ∷ []
    → ((u : TreeNode) → u ≢ p → hanging new u ≡ hanging old u)
    → (u v : TreeNode) → Contains (hanging new u) v ↔ (Contains (hanging old u) v ⊎ ((v ≡ node) × HangsFrom tree u v))
hung tree old new node p hangs here others u v = elim (same_or_not u p) [
  | inl e ↦
      (let row : hanging new u ≡ hanging old u ++ node ∷ [] =
      ap (λ u. hanging new u) e ∙ here ∙ ap (λ u. hanging old u ++ node ∷ []) (sym e) in (
        λ has. elim (Contains-push_cases (hanging old u) node v (subst (λ xs. Contains xs v) row has)) [
          | inl before ↦ inl before
          | inr is ↦ inr (sym is, subst (λ u. HangsFrom tree u v) (sym e) (subst (λ v. HangsFrom tree p v) is hangs))
        ],
        λ o. subst (λ xs. Contains xs v) (sym row) (elim o [
          | inl before ↦ Contains-append_left (hanging old u) (node ∷ []) v before
          | inr last ↦ subst (λ v. Contains (hanging old u ++ node ∷ []) v) (sym last.0)
              (Contains-push (hanging old u) node)
        ]),
      ))
  | inr n ↦
      (let row = others u n in (
        λ has. inl (subst (λ xs. Contains xs v) row has),
        λ o. subst (λ xs. Contains xs v) (sym row) (elim o [
          | inl before ↦ before
          | inr last ↦ absurd (n (sym last.1.above
              ∙ ap (λ v. parent tree v) last.0 ∙ hangs.above))
        ]),
      ))
]

-- of a list of nodes those count that were hung
pub hung_none : (tree : Tree) (nodes : List TreeNode) (children : Children) (u v : TreeNode) → hanging children u ≡ []
    → Contains (hanging children u) v ↔ (Contains (take 0 nodes) v × HangsFrom tree u v)
hung_none tree nodes children u v none = (
  λ has. absurd (let l = (subst (λ xs. Contains xs v) none has).1 in omega arith),
  λ both. absurd (let l = both.0.1 in omega arith),
)

pub hung_more : (tree : Tree) (nodes : List TreeNode) (old new : Children) (i : ℕ) (u v : TreeNode)
    → (Contains (hanging new u) v ↔ (Contains (hanging old u) v ⊎ ((v ≡ get_or nodes i (Worker 0)) × HangsFrom tree u v)))
    → (Contains (hanging old u) v ↔ (Contains (take i nodes) v × HangsFrom tree u v))
    → (Contains (take (i + 1) nodes) v ↔ (Contains (take i nodes) v ⊎ (v ≡ get_or nodes i (Worker 0))))
    → Contains (hanging new u) v ↔ (Contains (take (i + 1) nodes) v × HangsFrom tree u v)
hung_more tree nodes old new i u v more before taken = (
  λ has. elim (more.0 has) [
    | inl was ↦ (taken.1 (inl (before.0 was).0), (before.0 was).1)
    | inr now ↦ (taken.1 (inr now.0), now.1)
  ],
  λ both. elim (taken.0 both.0) [
    | inl was ↦ more.1 (inl (before.1 (was, both.1)))
    | inr now ↦ more.1 (inr (now, both.1))
  ],
)

-- a row of a list of rows has grown by a node
module _ (tree : Tree) (old new : Children) (node : TreeNode) (k : ℕ) (row : List TreeNode) where
  same_row : (rows rows' : List (List TreeNode)) → k < length rows → rows' ≡ slice_set rows k row
      → row ≡ row_at rows k ++ node ∷ [] → row_at rows' k ≡ row_at rows k ++ node ∷ []
  same_row rows rows' l set is = ap (λ xs. row_at xs k) set ∙ get_or-set_same rows k row [] l ∙ is

  other_row : (rows rows' : List (List TreeNode)) → rows' ≡ slice_set rows k row → (j : ℕ) → j ≢ k
      → row_at rows' j ≡ row_at rows j
  other_row rows rows' set j n = ap (λ xs. row_at xs j) set ∙ get_or-set_other rows k j row [] n

  pub hung_rack : HangsFrom tree (Rack k) node → k < length old.racks.items
      → new.racks.items ≡ slice_set old.racks.items k row → new.centres ≡ old.centres → new.cluster ≡ old.cluster
      → new.worker ≡ old.worker → row ≡ row_at old.racks.items k ++ node ∷ []
      → (u v : TreeNode) → Contains (hanging new u) v ↔ (Contains (hanging old u) v ⊎ ((v ≡ node) × HangsFrom tree u v))
  hung_rack hangs l set centres cluster worker is =
      hung tree old new node (Rack k) hangs (same_row old.racks.items new.racks.items l set is) others
    where
      others : (u : TreeNode) → u ≢ Rack k → hanging new u ≡ hanging old u
      others (Worker w) n = worker
      others (Rack r) n = other_row old.racks.items new.racks.items set r (λ e. n (ap Rack e))
      others (Centre c) n = ap (λ rows. row_at rows.items c) centres
      others Cluster n = cluster

  pub hung_centre : HangsFrom tree (Centre k) node → k < length old.centres.items
      → new.centres.items ≡ slice_set old.centres.items k row → new.racks ≡ old.racks → new.cluster ≡ old.cluster
      → new.worker ≡ old.worker → row ≡ row_at old.centres.items k ++ node ∷ []
      → (u v : TreeNode) → Contains (hanging new u) v ↔ (Contains (hanging old u) v ⊎ ((v ≡ node) × HangsFrom tree u v))
  hung_centre hangs l set racks cluster worker is =
      hung tree old new node (Centre k) hangs (same_row old.centres.items new.centres.items l set is) others
    where
      others : (u : TreeNode) → u ≢ Centre k → hanging new u ≡ hanging old u
      others (Worker w) n = worker
      others (Rack r) n = ap (λ rows. row_at rows.items r) racks
      others (Centre c) n = other_row old.centres.items new.centres.items set c (λ e. n (ap Centre e))
      others Cluster n = cluster

  pub hung_cluster : HangsFrom tree Cluster node → new.cluster ≡ row → new.racks ≡ old.racks
      → new.centres ≡ old.centres → new.worker ≡ old.worker → row ≡ old.cluster ++ node ∷ []
      → (u v : TreeNode) → Contains (hanging new u) v ↔ (Contains (hanging old u) v ⊎ ((v ≡ node) × HangsFrom tree u v))
  hung_cluster hangs set racks centres worker is =
      hung tree old new node Cluster hangs (set ∙ is) others
    where
      others : (u : TreeNode) → u ≢ Cluster → hanging new u ≡ hanging old u
      others (Worker w) n = worker
      others (Rack r) n = ap (λ rows. row_at rows.items r) racks
      others (Centre c) n = ap (λ rows. row_at rows.items c) centres
      others Cluster n = absurd (n refl)
