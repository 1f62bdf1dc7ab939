-- A table of which the numbers of the nodes in a row change, one node after another.
use Rattle.std.proofs.Common.{◌≡◌, ℕ, ◌+◌, ◌<◌, ap, ◌∙◌, subst, refl, sym, inl, inr, arith}
use Rattle.std.specs.Prelude.{◌≢◌}
use Rattle.std.proofs.lemmas.Bool.{cases_lt}
use Rattle.tree_flow.specs.declared.node_table.NodeTable.{NodeTable}
use Rattle.tree_flow.specs.declared.nodes.TreeNode.{TreeNode}
use Rattle.tree_flow.specs.Table.{at_node}

-- the number has changed as is said
abbrev pub IsChanged : (TreeNode → ℕ → ℕ) → NodeTable ℕ → NodeTable ℕ → TreeNode → Type 0
IsChanged change old new v = at_node new v ≡ change v (at_node old v)

-- so it is with the first k nodes of the row, and all others have their numbers as before
pub record AreChanged (change : TreeNode → ℕ → ℕ) (old : NodeTable ℕ) (row : ℕ → TreeNode) (new : NodeTable ℕ) (k : ℕ)
    : Type 0 where
  pub done : (j : ℕ) → j < k → IsChanged change old new (row j)
  pub left : (v : TreeNode) → ((j : ℕ) → j < k → row j ≢ v) → at_node new v ≡ at_node old v

module _ (change : TreeNode → ℕ → ℕ) (old : NodeTable ℕ) (row : ℕ → TreeNode) where
  pub none_changed : AreChanged change old row old 0
  none_changed = record { done = λ j l. absurd (omega arith); left = λ v none. refl }

  pub next_changed : (count : ℕ) → ((j k : ℕ) → j < k → k < count → row j ≢ row k)
      → (now new : NodeTable ℕ) (k : ℕ) (node : TreeNode) → node ≡ row k → k < count
      → AreChanged change old row now k → IsChanged change now new node
      → ((v : TreeNode) → v ≢ node → at_node new v ≡ at_node now v) → AreChanged change old row new (k + 1)
  next_changed count once now new k node is l before here at_others =
      let same : (v : TreeNode) → v ≢ row k → at_node new v ≡ at_node now v = (λ v n. at_others v (λ e. n (e ∙ is))) in
      record {
        done = λ j m. elim (cases_lt j k) [
          | inl less ↦ same (row j) (once j k less l) ∙ before.done j less
          | inr past ↦
              (let e : k ≡ j = omega arith in
              subst (λ j. IsChanged change old new (row j)) e
              (subst (IsChanged change now new) is here
              ∙ ap (change (row k)) (before.left (row k) (λ i m. once i k m l))))
        ];
        left = λ v none. same v (λ e. none k (omega arith) (sym e)) ∙ before.left v (λ j m. none j (omega arith));
      }
