-- The order in which a search, or a search back, looks from nodes, where it looks from one node more.
use Rattle.std.proofs.Common.{◌≡◌, ℕ, ◌+◌, ◌<◌, ◌≤◌, ◌⊎◌, ap, inl, inr, arith}
use Rattle.std.specs.Prelude.{◌≢◌}
use Rattle.tree_flow.specs.declared.node_table.NodeTable.{NodeTable}
use Rattle.tree_flow.specs.declared.nodes.TreeNode.{TreeNode}
use Rattle.tree_flow.specs.Table.{at_or}
use Rattle.tree_flow.proofs.Moved.{same_or_not}

-- u was looked from, before x was
abbrev pub IsFirst : NodeTable ℕ → TreeNode → TreeNode → Type 0
IsFirst order u x = (0 < at_or order 0 u) × ((at_or order 0 x ≡ 0) ⊎ (at_or order 0 u < at_or order 0 x))

-- c is looked from next
module _ (old new : NodeTable ℕ) (looked : ℕ) (c : TreeNode) (few : (v : TreeNode) → at_or old 0 v ≤ looked)
    (fresh : at_or old 0 c ≡ 0) (here : at_or new 0 c ≡ looked + 1)
    (others : (v : TreeNode) → v ≢ c → at_or new 0 v ≡ at_or old 0 v) where
  other : (u : TreeNode) → 0 < at_or old 0 u → u ≢ c
  other u some e = (let a = ap (at_or old 0) e in omega (arith, fresh))

  pub few_next : (v : TreeNode) → at_or new 0 v ≤ looked + 1
  few_next v = elim (same_or_not v c) [
    | inl e ↦ (let a = ap (at_or new 0) e in omega (arith, here))
    | inr n ↦ (let same = others v n in let less = few v in omega arith)
  ]

  pub first_next : (u x : TreeNode) → IsFirst old u x → IsFirst new u x
  first_next u x b =
      let same = others u (other u b.0) in
      let less = few u in
      let some = b.0 in (
        omega arith,
        elim (same_or_not x c) [
          | inl e ↦ inr (let a = ap (at_or new 0) e in omega (arith, here))
          | inr n ↦ (let as_it_was = others x n in elim b.1 [
            | inl none ↦ inl (omega arith)
            | inr less ↦ inr (omega arith)
          ])
        ],
      )

  pub some_later : (u : TreeNode) → 0 < at_or old 0 u → 0 < at_or new 0 u
  some_later u some = (let same = others u (other u some) in omega arith)

  pub open_before : (v : TreeNode) → at_or new 0 v ≡ 0 → at_or old 0 v ≡ 0
  open_before v none = elim (same_or_not v c) [
    | inl e ↦ absurd (let a = ap (at_or new 0) e in omega (arith, here))
    | inr n ↦ (let same = others v n in omega arith)
  ]

  -- no node that was looked from is farther than it
  pub last_next : (far : TreeNode → ℕ)
      → ((u v : TreeNode) → 0 < at_or old 0 u → at_or old 0 v ≡ 0 → far u ≤ far v)
      → (u : TreeNode) → 0 < at_or new 0 u → far u ≤ far c
  last_next far level u some = elim (same_or_not u c) [
    | inl e ↦ (let a = ap far e in omega arith)
    | inr n ↦ (let same = others u n in level u c (omega arith) fresh)
  ]
