-- What holds of each view of a list, where one view is changed or one is added.
use Rattle.std.proofs.Common.{◌≡◌, ◌≢◌, ℕ, zero, suc, ◌<◌, List, [], ◌∷◌, ◌++◌, length, set, sym, subst}
use Rattle.std.proofs.Common.{⊎_elim, arith}
use mathlib.Core.Option.{some, some-ne-none}
use lib.ListN.{get_elem?}
use Rattle.atomic_table.proofs.Lists.{at_set, at_snoc}

module _ {V : Type 0} where
  -- a view that is found has a place in the list
  pub place_within : (vs : List V) (i : ℕ) (v : V) → get_elem? vs i ≡ some v → i < length vs
  place_within [] i v e = absurd (some-ne-none v (sym e))
  place_within (x ∷ xs) zero v e = omega arith
  place_within (x ∷ xs) (suc i) v e = omega (arith, place_within xs i v e)

  -- one view is changed
  pub each_set : (P : V → Type 0) (vs : List V) (i : ℕ) (w : V)
      → ((j : ℕ) (u : V) → j ≢ i → get_elem? vs j ≡ some u → P u) → P w
      → (j : ℕ) (u : V) → get_elem? (set vs i w) j ≡ some u → P u
  each_set P vs i w others mine j u e = ⊎_elim
      (λ (x : (j ≡ i) × (w ≡ u)). subst P x.1 mine)
      (λ (x : (j ≢ i) × (get_elem? vs j ≡ some u)). others j u x.0 x.1)
      (at_set vs i j w u e)

  -- one view is added
  pub each_snoc : (P : V → Type 0) (vs : List V) (w : V) → ((j : ℕ) (u : V) → get_elem? vs j ≡ some u → P u)
      → P w
      → (j : ℕ) (u : V) → get_elem? (vs ++ w ∷ []) j ≡ some u → P u
  each_snoc P vs w others mine j u e = ⊎_elim
      (λ (x : get_elem? vs j ≡ some u). others j u x)
      (λ (x : w ≡ u). subst P x mine)
      (at_snoc vs w u j e)
