-- Sums over a list of views, and what one changed view does to them.
use Rattle.std.proofs.Common.{◌≡◌, ℕ, zero, suc, ◌+◌, ◌*◌, ◌≤◌, List, [], ◌∷◌, length, set, refl, sym, ap}
use Rattle.std.proofs.Common.{arith}
use Rattle.std.specs.List.{sum_by}
use Rattle.std.proofs.lemmas.List.Sums.{sum_by-cons}
use mathlib.Core.Option.{some, some-injective, some-ne-none}
use lib.ListN.{get_elem?}

module _ {V : Type 0} where
  -- the sum after the change, with the old term, is the sum before it, with the new one
  pub sum_by-set : (f : V → ℕ) (vs : List V) (i : ℕ) (v w : V) → get_elem? vs i ≡ some v
      → sum_by f (set vs i w) + f v ≡ sum_by f vs + f w
  sum_by-set f [] i v w e = absurd (some-ne-none v (sym e))
  sum_by-set f (x ∷ xs) zero v w e =
      omega (arith, sum_by-cons f x xs, sum_by-cons f w xs, ap f (some-injective x v e))
  sum_by-set f (x ∷ xs) (suc i) v w e =
      omega (arith, sum_by-cons f x xs, sum_by-cons f x (set xs i w), sum_by-set f xs i v w e)

  -- no term is more than the sum
  pub term_within : (f : V → ℕ) (vs : List V) (i : ℕ) (v : V) → get_elem? vs i ≡ some v → f v ≤ sum_by f vs
  term_within f [] i v e = absurd (some-ne-none v (sym e))
  term_within f (x ∷ xs) zero v e = omega (arith, sum_by-cons f x xs, ap f (some-injective x v e))
  term_within f (x ∷ xs) (suc i) v e = omega (arith, sum_by-cons f x xs, term_within f xs i v e)

  -- a bound on each term, in proportion, is one on the sum
  pub sum_within : (f g : V → ℕ) (b : ℕ) (vs : List V) → ((i : ℕ) (v : V) → get_elem? vs i ≡ some v →
      f v ≤ g v * b)
      → sum_by f vs ≤ sum_by g vs * b
  sum_within f g b [] h = omega arith
  sum_within f g b (x ∷ xs) h =
      let here : f x ≤ g x * b = h 0 x refl in
      let rest = sum_within f g b xs (λ i v e. h (suc i) v e) in
      let fs = sum_by-cons f x xs in
      let gs = sum_by-cons g x xs in
      rw (fs, gs) (omega (arith, here, rest))

  -- terms that are in proportion have sums that are
  pub sum_scaled : (f g : V → ℕ) (b : ℕ) (vs : List V) → ((i : ℕ) (v : V) → get_elem? vs i ≡ some v →
      f v ≡ b * g v)
      → sum_by f vs ≡ b * sum_by g vs
  sum_scaled f g b [] h = omega arith
  sum_scaled f g b (x ∷ xs) h =
      let here : f x ≡ b * g x = h 0 x refl in
      let rest = sum_scaled f g b xs (λ i v e. h (suc i) v e) in
      let fs = sum_by-cons f x xs in
      let gs = sum_by-cons g x xs in
      rw (fs, gs) (omega (arith, here, rest))

  sum_none : (f g : V → ℕ) (vs : List V) → ((i : ℕ) (v : V) → get_elem? vs i ≡ some v → g v ≡ 0 → f v ≡ 0)
      → sum_by g vs ≡ 0 → sum_by f vs ≡ 0
  sum_none f g [] h e = refl
  sum_none f g (x ∷ xs) h e =
      let gs = sum_by-cons g x xs in
      omega (
        arith,
        sum_by-cons f x xs,
        h 0 x refl (omega arith),
        sum_none f g xs (λ i v a. h (suc i) v a)
            (omega arith),
      )

  -- where one view has all of the one sum, it has all of the other
  pub sum_alone : (f g : V → ℕ) (vs : List V) → ((i : ℕ) (v : V) → get_elem? vs i ≡ some v → g v ≡ 0 →
      f v ≡ 0)
      → (i : ℕ) (v : V) → get_elem? vs i ≡ some v → sum_by g vs ≡ g v → sum_by f vs ≡ f v
  sum_alone f g [] h i v e all = absurd (some-ne-none v (sym e))
  sum_alone f g (x ∷ xs) h zero v e all =
      let gs = sum_by-cons g x xs in
      let same = some-injective x v e in
      let others = sum_none f g xs (λ i u a. h (suc i) u a) (omega (arith, ap g same)) in
      omega (arith, sum_by-cons f x xs, ap f same, others)
  sum_alone f g (x ∷ xs) h (suc i) v e all =
      let gs = sum_by-cons g x xs in
      let has = term_within g xs i v e in
      let rest = sum_alone f g xs (λ j u a. h (suc j) u a) i v e (omega arith) in
      omega (arith, sum_by-cons f x xs, h 0 x refl (omega arith), rest)

  -- each element counted once
  pub sum_by-one : (vs : List V) → sum_by (λ (v : V). 1) vs ≡ length vs
  sum_by-one [] = refl
  sum_by-one (x ∷ xs) = omega (arith, sum_by-cons (λ (v : V). 1) x xs, sum_by-one xs)
