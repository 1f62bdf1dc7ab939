-- A row of workers with one more in it.
use Rattle.std.proofs.Common.{◌≡◌, ℕ, ◌+◌, ◌<◌, ◌≤◌, ◌||◌, ◌&&◌, ◌↔◌, ◌⊎◌, List, [], ◌∷◌, ◌++◌, length}
use Rattle.std.proofs.Common.{get_or, inl, inr, refl, sym, ap, arith}
use Rattle.std.proofs.Common.{suc, zero, Result, Ok, Err, nat_cmp, subst}
use Rattle.std.proofs.Common.{get_or-set_same, get_or-set_other}
use Rattle.std.specs.Prelude.{MatchResult, ◌==◌}
use Rattle.std.specs.List.{insert}
use Rattle.std.specs.Result.{is_ok}
use Rattle.std.specs.List.Sorted.{IsBinarySearchResult, IsNonDecreasing}
use Rattle.std.proofs.lemmas.Bool.{lt-ltb, le-ltb, eq-eqb, ne_eqb, cases_lt, cases_eq}
use Rattle.std.proofs.lemmas.Grind.{get_or_default_zero}
use Rattle.std.proofs.lemmas.List.Edits.{insert_end}
use Rattle.std.proofs.lemmas.List.Folds.{list_any_at, list_any_none}
use Rattle.std.proofs.lemmas.List.Sorted.{searched, IsNonDecreasingBy-insert}
use Rattle.node_ids.specs.Sets.{has_pair, is_in_row, row_with, with_pair, HasPair}
use Rattle.node_ids.proofs.Updating.{updated_is}

-- where the worker is in a row, or where it goes
abbrev pub IsFound : List ℕ → ℕ → Result ℕ ℕ → Type 0
IsFound row w r = MatchResult r (λ i. (i < length row) × (get_or row i 0 ≡ w))
    (λ i. (i ≤ length row) × ((k : ℕ) → k < i → get_or row k 0 < w)
    × ((k : ℕ) → i ≤ k → k < length row → w < get_or row k 0))

-- a binary search finds it
pub is_found : (row seen : List ℕ) (w : ℕ) (r s : Result ℕ ℕ) → seen ≡ row → r ≡ s
    → IsBinarySearchResult (λ y. nat_cmp y w) seen r → IsNonDecreasing row → IsFound row w s
is_found row seen w r s same is result rising =
    subst (IsFound row w) is (searched row w r
    (subst (λ (xs : List ℕ). IsBinarySearchResult (λ y. nat_cmp y w) xs r) same result)
    (λ i j le lt. rising i j 0 le lt))

-- the row still rises with the worker in it
pub rises-insert : (row : List ℕ) (w i : ℕ) → IsNonDecreasing row → IsFound row w (Err i)
    → IsNonDecreasing (insert row i w)
rises-insert row w i rising found =
    IsNonDecreasingBy-insert (λ (x : ℕ). x) row i w rising found.0
    (λ k d lt. rw (get_or_default_zero row k d (omega (arith, lt, found.0))) (omega (arith, found.1 k lt)))
    (λ k d le lt. rw (get_or_default_zero row k d lt) (omega (arith, found.2 k le lt)))

-- the worker goes before those above it
pub row_with-insert : (w : ℕ) (row : List ℕ) (i : ℕ) → i ≤ length row
    → ((k : ℕ) → k < i → get_or row k 0 < w) → ((k : ℕ) → i ≤ k → k < length row → w < get_or row k 0)
    → row_with w row ≡ insert row i w
row_with-insert w [] zero few below above = refl
row_with-insert w [] (suc i) few below above = absurd (omega (arith, few))
row_with-insert w (x ∷ row) zero few below above =
    let first : w < x = above 0 (omega arith) (omega arith) in
    rw (lt-ltb w x first) refl
row_with-insert w (x ∷ row) (suc i) few below above =
    let first : x < w = below 0 (omega arith) in
    let not_below = le-ltb w x (omega (arith, first)) in
    let other = ne_eqb w x (λ e. omega (arith, first, e)) in
    let rest = row_with-insert w row i (omega (arith, few))
    (λ k lt. below (suc k) (omega (arith, lt)))
    (λ k le lt. above (suc k) (omega (arith, le)) (omega (arith, lt))) in
    rw (not_below, other) (ap (λ ys. x ∷ ys) rest)

-- one that is there, behind no greater ones
pub row_with-there : (w : ℕ) (row : List ℕ) (i : ℕ) → i < length row → get_or row i 0 ≡ w
    → ((k : ℕ) → k < i → get_or row k 0 ≤ w) → row_with w row ≡ row
row_with-there w [] i few here before = absurd (omega (arith, few))
row_with-there w (x ∷ row) zero few here before =
    rw (le-ltb w x (omega (arith, here)), eq-eqb w x (sym here)) refl
row_with-there w (x ∷ row) (suc i) few here before =
    let le : x ≤ w = before 0 (omega arith) in
    let rest = row_with-there w row i (omega (arith, few)) here
    (λ k lt. before (suc k) (omega (arith, lt))) in
    elim (cases_eq w x) [
      | inl e ↦ rw (le-ltb w x le, eq-eqb w x e) refl
      | inr other ↦ rw (le-ltb w x le, ne_eqb w x other) (ap (λ ys. x ∷ ys) rest)
    ]

-- a row with a worker put in has this worker, and the workers of the row before
pub in-row_with : (w : ℕ) (row : List ℕ) (v : ℕ)
    → is_in_row (row_with w row) v ≡ (w == v || is_in_row row v)
in-row_with w [] v = refl
in-row_with w (x ∷ row) v =
    let rest = in-row_with w row v in
    elim (cases_lt w x) [
      | inl lt ↦ rw (lt-ltb w x lt) refl
      | inr le ↦
          elim (cases_eq w x) [
            | inl e ↦ rw (le-ltb w x le, eq-eqb w x e) (grind (arith, e))
            | inr other ↦ rw (le-ltb w x le, ne_eqb w x other) (grind (arith, rest))
          ]
    ]

-- a set with a pair put in has this pair, and the pairs of the set before
pub has-with_pair : (rows : List (List ℕ)) (s w t v : ℕ) → s < length rows
    → has_pair (with_pair rows s w) t v ≡ ((t == s && w == v) || has_pair rows t v)
has-with_pair rows s w t v known =
    let made = updated_is (row_with w) rows s [] known in
    elim (cases_eq t s) [
      | inl e ↦ rw (made, e, eq-eqb s s refl, get_or-set_same) (in-row_with w (get_or rows s []) v)
      | inr other ↦ rw (made, ne_eqb t s other, get_or-set_other) refl
    ]

pub pairs-with_pair : (rows : List (List ℕ)) (s w t v : ℕ) → s < length rows
    → HasPair (with_pair rows s w) t v ↔ (((t ≡ s) × (v ≡ w)) ⊎ HasPair rows t v)
pairs-with_pair rows s w t v known =
    grind (arith, has-with_pair rows s w t v known, cases_eq, eq-eqb, ne_eqb)

-- a search tells whether the row has the worker
pub in-found : (row : List ℕ) (w : ℕ) (r : Result ℕ ℕ) → IsFound row w r → is_ok r ≡ is_in_row row w
in-found row w (Ok i) found = sym (list_any_at (λ v. v == w) row i 0 found.0 (eq-eqb _ w found.1))
in-found row w (Err i) found = sym (list_any_none (λ v. v == w) row (λ k d lt. ne_eqb _ w (λ e.
    elim (cases_lt k i) [
      | inl before ↦ let less = found.1 k before in
          omega (arith, less, e, get_or_default_zero row k d lt)
      | inr past ↦ let more = found.2 k past lt in
          omega (arith, more, e, get_or_default_zero row k d lt)
    ])))

-- a worker above all of a row goes behind them
pub rises-push : (row : List ℕ) (w : ℕ) → IsNonDecreasing row
    → ((k : ℕ) → k < length row → get_or row k 0 < w) → IsNonDecreasing (row ++ w ∷ [])
rises-push row w rising below =
    let all : length row ≤ length row = omega arith in
    subst (λ (xs : List ℕ). IsNonDecreasing xs) (insert_end row w)
    (rises-insert row w (length row) rising (all, below, λ k le lt. absurd (omega (arith, le, lt))))
