-- Elements that at most one key takes are counted once, key by key.
use Rattle.std.proofs.Common.{ℕ, List, [], ◌∷◌, ◌≡◌, ◌≤◌, ◌∙◌, Bool, true, false, not, ap, arith, length}
use Rattle.std.proofs.Common.{refl, sym}
use Rattle.std.specs.List.{AllByRecursion, IsDistinct, filter, sum_by}
use Rattle.std.proofs.lemmas.Bool.{false≢true}
use Rattle.std.proofs.lemmas.List.Filters.{length-filter_both}
use Rattle.std.proofs.lemmas.List.Sums.{sum_by-cons}
use Rattle.std.proofs.lemmas.Map.Keys.{IsDistinct-head, IsDistinct-tail}

module _ {K X : Type 0} (eq : K → K → Bool) (takes : K → X → Bool)
    (apart : (j k : K) (x : X) → eq j k ≡ false → takes j x ≡ true → takes k x ≡ false) where
  abbrev leaves : K → X → Bool
  leaves k x = not (takes k x)

  kept_at : (j k : K) → eq j k ≡ false → (x : X) (xs : List X) (b c : Bool) → takes j x ≡ b → takes k x ≡ c
      → filter (takes k) xs ≡ filter (takes k) (filter (leaves j) xs)
      → filter (takes k) (x ∷ xs) ≡ filter (takes k) (filter (leaves j) (x ∷ xs))
  kept_at j k other x xs true true own is more = absurd (false≢true (sym (apart j k x other own) ∙ is))
  kept_at j k other x xs true false own is more = grind (arith, own, is, more)
  kept_at j k other x xs false c own is more = grind (arith, own, is, more)

  kept : (j k : K) → eq j k ≡ false → (xs : List X)
      → filter (takes k) xs ≡ filter (takes k) (filter (leaves j) xs)
  kept j k other [] = refl
  kept j k other (x ∷ xs) = kept_at j k other x xs _ _ refl refl (kept j k other xs)

  abbrev count_in : List X → K → ℕ
  count_in xs k = length (filter (takes k) xs)

  same : (k : K) (js : List K) → AllByRecursion (λ j. eq k j ≡ false) js → (xs : List X)
      → sum_by (count_in xs) js ≡ sum_by (count_in (filter (leaves k) xs)) js
  same k [] others xs = refl
  same k (j ∷ js) others xs =
      let one = ap (λ (l : List X). length l) (kept k j others.0 xs) in
      let more = same k js others.1 xs in
      let here = sum_by-cons (count_in xs) j js in
      let there = sum_by-cons (count_in (filter (leaves k) xs)) j js in
      omega (arith, one, more, here, there)

  pub counted_once : (ks : List K) → IsDistinct eq ks → (xs : List X) → sum_by (count_in xs) ks ≤ length xs
  counted_once [] differ xs = omega arith
  counted_once (k ∷ ks) differ xs =
      let rest = filter (leaves k) xs in
      let less = counted_once ks (IsDistinct-tail eq k ks differ) rest in
      let whole = length-filter_both (takes k) (leaves k) (λ x. refl) xs in
      omega (arith, less, whole, sum_by-cons (count_in xs) k ks, same k ks (IsDistinct-head eq k ks differ) xs)
