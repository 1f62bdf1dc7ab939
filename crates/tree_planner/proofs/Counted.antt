-- How many nodes a search has not looked from.
use Rattle.std.proofs.Common.{◌≡◌, ℕ, ◌+◌, ◌<◌, ◌≤◌, Bool, true, false, cond, List, [], ◌∷◌, length, count_by, Contains}
use Rattle.std.proofs.Common.{ap, ◌∙◌, refl, inl, inr, arith}
use Rattle.std.specs.Prelude.{◌≢◌, ◌==◌}
use Rattle.std.proofs.lemmas.Bool.{eq-eqb, ne_eqb}
use Rattle.std.proofs.lemmas.List.Sums.{sum_by-cons}
use Rattle.tree_flow.specs.declared.nodes.TreeNode.{TreeNode}
use Rattle.tree_planner.specs.declared.search.Search.{Search}
use Rattle.tree_planner.specs.Searching.{order_at}
use Rattle.tree_flow.proofs.Moved.{same_or_not}

abbrev pub open_count : Search → List TreeNode → ℕ
open_count search nodes = count_by (λ v. order_at search v == 0) nodes

abbrev bit : Bool → ℕ
bit b = cond b 1 0

module _ (p q : TreeNode → Bool) (c : TreeNode) (was : p c ≡ true) (is : q c ≡ false)
    (others : (v : TreeNode) → v ≢ c → q v ≡ p v) where
  one-le : (v : TreeNode) → bit (q v) ≤ bit (p v)
  one-le v = elim (same_or_not v c) [
    | inl e ↦ (let none : bit (q v) ≡ 0 = ap (λ v. bit (q v)) e ∙ ap bit is in omega arith)
    | inr n ↦ (let same = ap bit (others v n) in omega arith)
  ]

  pub count-le : (nodes : List TreeNode) → count_by q nodes ≤ count_by p nodes
  count-le [] = omega arith
  count-le (v ∷ vs) =
      omega (arith, count-le vs, one-le v, sum_by-cons (λ v. bit (q v)) v vs, sum_by-cons (λ v. bit (p v)) v vs)

  pub count_less : (nodes : List TreeNode) → Contains nodes c → count_by q nodes + 1 ≤ count_by p nodes
  count_less [] i = absurd (let none = i.1 in omega arith)
  count_less (v ∷ vs) i =
      let a = sum_by-cons (λ v. bit (q v)) v vs in
      let b = sum_by-cons (λ v. bit (p v)) v vs in
      elim (same_or_not v c) [
        | inl e ↦
            (let none : bit (q v) ≡ 0 = ap (λ v. bit (q v)) e ∙ ap bit is in
            let one : bit (p v) ≡ 1 = ap (λ v. bit (p v)) e ∙ ap bit was in
            let rest = count-le vs in
            omega arith)
        | inr n ↦
            (let rest = count_less vs (later v vs i n) in
            let here = one-le v in
            omega arith)
      ]
    where
      later : (v : TreeNode) (vs : List TreeNode) → Contains (v ∷ vs) c → v ≢ c → Contains vs c
      later v vs i n = grind arith

-- what holds of more nodes counts no fewer
pub count_grows : (p q : TreeNode → Bool) → ((v : TreeNode) → p v ≡ true → q v ≡ true) → (nodes : List TreeNode)
    → count_by p nodes ≤ count_by q nodes
count_grows p q grows [] = omega arith
count_grows p q grows (v ∷ vs) =
    omega (arith, count_grows p q grows vs, one (p v) (q v) (grows v), sum_by-cons (λ v. bit (p v)) v vs, sum_by-cons (λ v. bit (q v)) v vs)
  where
    one : (a b : Bool) → (a ≡ true → b ≡ true) → bit a ≤ bit b
    one true b is = (let t = ap bit (is refl) in omega arith)
    one false b is = omega arith

pub count-most : (p : TreeNode → Bool) (nodes : List TreeNode) → count_by p nodes ≤ length nodes
count-most p [] = omega arith
count-most p (v ∷ vs) = omega (arith, count-most p vs, sum_by-cons (λ v. bit (p v)) v vs, few (p v))
  where
    few : (b : Bool) → bit b ≤ 1
    few true = omega arith
    few false = omega arith

-- what does not hold of one of the nodes counts fewer than all
pub count_missed : (p : TreeNode → Bool) (c : TreeNode) → p c ≡ false → (nodes : List TreeNode) → Contains nodes c
    → count_by p nodes + 1 ≤ length nodes
count_missed p c none [] i = absurd (let past = i.1 in omega arith)
count_missed p c none (v ∷ vs) i =
    let a = sum_by-cons (λ v. bit (p v)) v vs in
    elim (same_or_not v c) [
      | inl e ↦
          (let zero : bit (p v) ≡ 0 = ap (λ v. bit (p v)) e ∙ ap bit none in
          let most = count-most p vs in
          omega arith)
      | inr n ↦
          (let rest = count_missed p c none vs (later v vs i n) in
          let here = few (p v) in
          omega arith)
    ]
  where
    later : (v : TreeNode) (vs : List TreeNode) → Contains (v ∷ vs) c → v ≢ c → Contains vs c
    later v vs i n = grind arith

    few : (b : Bool) → bit b ≤ 1
    few true = omega arith
    few false = omega arith

-- one node less, where c was looked from
pub open_less : (old new : Search) (nodes : List TreeNode) (c : TreeNode) → Contains nodes c → order_at old c ≡ 0
    → 0 < order_at new c → ((v : TreeNode) → v ≢ c → order_at new v ≡ order_at old v)
    → open_count new nodes + 1 ≤ open_count old nodes
open_less old new nodes c among was now others =
    count_less (λ v. order_at old v == 0) (λ v. order_at new v == 0) c (eq-eqb (order_at old c) 0 was)
    (ne_eqb (order_at new c) 0 (λ e. omega arith)) (λ v n. ap (λ (k : ℕ). k == 0) (others v n)) nodes among
