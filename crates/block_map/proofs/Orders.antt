-- The copies of the splits below a number, one split after another.
use Rattle.std.proofs.Common.{◌≡◌, ℕ, ◌+◌, ◌<◌, List, [], ◌∷◌, ◌++◌, map, All, ap, ◌∙◌, subst}
use Rattle.std.proofs.Common.{arith, inl, inr}
use Rattle.std.specs.Prelude.{Contains}
use Rattle.std.specs.List.Sorted.{IsStrictlyIncreasing}
use Rattle.std.proofs.Math.ListN.{get_or-append}
use Rattle.std.proofs.Math.Seq.{get_or-append_seam}
use Rattle.std.proofs.lemmas.Bool.{cases_lt}
use Rattle.std.proofs.lemmas.List.{length-append, map-append}
use Rattle.std.proofs.lemmas.List.Elements.{All-push, Contains-append_left, Contains-push}
use Rattle.block_map.specs.declared.CopyOrder.{CopyOrder}
use Rattle.block_map.specs.Copies.{Holdings, IsCopy, WantsCopy}

-- the copies of the splits below n
pub record AreCopiesBelow (h : Holdings) (n : ℕ) (orders : List CopyOrder) : Type 0 where
  pub rising : IsStrictlyIncreasing (map (λ order. order.split) orders)
  pub each : All (IsCopy h) orders
  pub below : All (λ s. s < n) (map (λ order. order.split) orders)
  pub all : (s : ℕ) → s < n → WantsCopy h s → Contains (map (λ order. order.split) orders) s

rising-push : (xs : List ℕ) (n : ℕ) → IsStrictlyIncreasing xs → All (λ x. x < n) xs →
    IsStrictlyIncreasing (xs ++ n ∷ [])
rising-push xs n rising below k inside =
    grind (arith, length-append, get_or-append, cases_lt, get_or-append_seam)

-- the split n wants a copy
pub copies_push : (h : Holdings) (n : ℕ) (orders : List CopyOrder) (order : CopyOrder) →
    AreCopiesBelow h n orders → order.split ≡ n → IsCopy h order →
    AreCopiesBelow h (n + 1) (orders ++ order ∷ [])
copies_push h n orders order copies at copy =
    let splits : List ℕ = map (λ order. order.split) orders in
    let is : map (λ order. order.split) (orders ++ order ∷ []) ≡ splits ++ n ∷ [] =
    map-append (λ (o : CopyOrder). o.split) orders (order ∷ []) ∙ ap (λ (s : ℕ). splits ++ s ∷ []) at in
    let wider : All (λ s. s < n + 1) splits = λ k d inside. omega (arith, copies.below k d inside) in
    record {
      rising = rw is (rising-push splits n copies.rising copies.below);
      each = All-push (IsCopy h) orders order copies.each copy;
      below = rw is (All-push (λ s. s < n + 1) splits n wider (omega arith));
      all = λ s below wants. rw is (elim (cases_lt s n) [
        | inl before ↦ Contains-append_left splits (n ∷ []) s (copies.all s before wants)
        | inr here ↦
            let same : n ≡ s = omega (arith, below, here) in
            subst (λ (k : ℕ). Contains (splits ++ n ∷ []) k) same (Contains-push splits n)
      ]);
    }

-- the split n wants none
pub copies_skip : (h : Holdings) (n : ℕ) (orders : List CopyOrder) → AreCopiesBelow h n orders →
    (WantsCopy h n → ⊥) → AreCopiesBelow h (n + 1) orders
copies_skip h n orders copies none = grind arith
