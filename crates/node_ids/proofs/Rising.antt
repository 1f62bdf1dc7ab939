-- Rows that strictly rise are the same where they have the same members. So the row of a list's numbers does
-- not depend on their order.
use Rattle.std.proofs.Common.{◌≡◌, ℕ, ◌<◌, ◌≤◌, ◌||◌, ◌∙◌, List, [], ◌∷◌, All, inl, inr, refl, sym, ap, arith}
use Rattle.std.proofs.Common.{Bool, true, false, zero, suc}
use Rattle.std.specs.Prelude.{◌==◌}
use Rattle.std.specs.List.{fold, list_any}
use Rattle.std.specs.List.Sorted.{IsPermutation}
use Rattle.std.proofs.lemmas.Bool.{lt-ltb, le-ltb, eq-eqb, eqb-true, ne_eqb, cases_lt, cases_eq}
use Rattle.std.proofs.lemmas.List.Elements.{All-cons, All-head, All-tail}
use Rattle.std.proofs.lemmas.List.Folds.{list_any_none}
use Rattle.std.proofs.lemmas.List.Sorted.{list_any-IsPermutation}
use Rattle.node_ids.specs.Sets.{has_pair, is_in_row, no_pairs, row_of_all, row_with, with_pair}
use Rattle.node_ids.proofs.Rows.{in-row_with}

-- each number is below all that follow it
abbrev Rises : List ℕ → Type 0
Rises [] = Unit {0}
Rises (n ∷ row) = All (λ m. n < m) row × Rises row

all-row_with : (P : ℕ → Type 0) (n : ℕ) (row : List ℕ) → P n → All P row → All P (row_with n row)
all-row_with P n [] own all = All-cons P n [] own all
all-row_with P n (m ∷ row) own all = elim (cases_lt n m) [
  | inl lt ↦ rw (lt-ltb n m lt) (All-cons P n (m ∷ row) own all)
  | inr le ↦ elim (cases_eq n m) [
    | inl e ↦ rw (le-ltb n m le, eq-eqb n m e) all
    | inr other ↦ rw (le-ltb n m le, ne_eqb n m other)
        (All-cons P m (row_with n row) (All-head P m row all)
        (all-row_with P n row own (All-tail P m row all)))
  ]
]

rises-row_with : (n : ℕ) (row : List ℕ) → Rises row → Rises (row_with n row)
rises-row_with n [] rises = (λ k d lt. absurd (omega (arith, lt)), tt)
rises-row_with n (m ∷ row) rises = elim (cases_lt n m) [
  | inl lt ↦ rw (lt-ltb n m lt) (All-cons (λ k. n < k) m row lt (above lt), rises)
  | inr le ↦ elim (cases_eq n m) [
    | inl e ↦ rw (le-ltb n m le, eq-eqb n m e) rises
    | inr other ↦ rw (le-ltb n m le, ne_eqb n m other)
        (all-row_with (λ k. m < k) n row (omega (arith, le, other)) rises.0, rises-row_with n row rises.1)
  ]
]
  where
    above : n < m → All (λ k. n < k) row
    above lt k d inside = let more = rises.0 k d inside in omega (arith, lt, more)

-- what is below all of a row is not in it
not_in : (n : ℕ) (row : List ℕ) → All (λ m. n < m) row → is_in_row row n ≡ false
not_in n row above = list_any_none (λ m. m == n) row
    (λ k d inside. let more = above k d inside in ne_eqb _ n (λ e. omega (arith, more, e)))

-- rows that rise and have the same members are the same
same_rows : (xs ys : List ℕ) → Rises xs → Rises ys
    → ((n : ℕ) → is_in_row xs n ≡ is_in_row ys n) → xs ≡ ys
same_rows [] [] rise rises same = refl
same_rows [] (y ∷ ys) rise rises same = absurd (grind (arith, same y, eq-eqb y y refl))
same_rows (x ∷ xs) [] rise rises same = absurd (grind (arith, same x, eq-eqb x x refl))
same_rows (x ∷ xs) (y ∷ ys) rise rises same = elim (cases_lt x y) [
  | inl lt ↦ absurd (grind (
    arith,
    same x,
    eq-eqb x x refl,
    ne_eqb y x (λ e. omega (arith, lt, e)),
    not_in x ys (λ k d inside. let more = rises.0 k d inside in omega (arith, lt, more)),
  ))
  | inr le ↦ elim (cases_eq x y) [
    | inr other ↦ absurd (grind (
      arith,
      same y,
      eq-eqb y y refl,
      ne_eqb x y other,
      not_in y xs (λ k d inside. let more = rise.0 k d inside in omega (arith, le, other, more)),
    ))
    | inl e ↦ rw e (ap (λ row. y ∷ row) (same_rows xs ys rise.1 rises.1 (rest e)))
  ]
]
  where
    rest : x ≡ y → (n : ℕ) → is_in_row xs n ≡ is_in_row ys n
    rest e n = elim (cases_eq x n) [
      | inl is ↦ rw (sym is) (not_in x xs rise.0
          ∙ sym (not_in x ys (λ k d inside. let more = rises.0 k d inside in omega (arith, e, more))))
      | inr other ↦ grind (arith, same n, ne_eqb x n other, ne_eqb y n (λ is. other (e ∙ is)))
    ]

-- a row to which numbers are put one after another
rises-fold : (row ns : List ℕ) → Rises row → Rises (fold (λ r n. row_with n r) row ns)
rises-fold row [] rises = rises
rises-fold row (n ∷ ns) rises = rises-fold (row_with n row) ns (rises-row_with n row rises)

in-fold : (row ns : List ℕ) (k : ℕ)
    → is_in_row (fold (λ r n. row_with n r) row ns) k ≡ (is_in_row row k || is_in_row ns k)
in-fold row [] k = grind arith
in-fold row (n ∷ ns) k = in-fold (row_with n row) ns k ∙ rw (in-row_with n row k) (grind arith)

-- the row of all numbers of a list is that of a permutation of it
pub row-permutation : (ns ms : List ℕ) → IsPermutation ns ms → row_of_all ms ≡ row_of_all ns
row-permutation ns ms is =
    same_rows (row_of_all ms) (row_of_all ns) (rises-fold [] ms tt) (rises-fold [] ns tt)
    (λ k. in-fold [] ms k ∙ sym (list_any-IsPermutation (λ m. m == k) ns ms is) ∙ sym (in-fold [] ns k))

-- ---- rows for each split, all of which rise

abbrev pub AllRise : List (List ℕ) → Type 0
AllRise [] = Unit {0}
AllRise (row ∷ rows) = Rises row × AllRise rows

pub none-rise : (splits : ℕ) → AllRise (no_pairs splits)
none-rise zero = tt
none-rise (suc n) = (tt, none-rise n)

pub rise-with_pair : (rows : List (List ℕ)) (s w : ℕ) → AllRise rows → AllRise (with_pair rows s w)
rise-with_pair [] s w rise = tt
rise-with_pair (row ∷ rows) zero w rise = (rises-row_with w row rise.0, rise.1)
rise-with_pair (row ∷ rows) (suc s) w rise = (rise.0, rise-with_pair rows s w rise.1)

-- a number that is in a row is not put there again
there : (n : ℕ) (row : List ℕ) → Rises row → is_in_row row n ≡ true → row_with n row ≡ row
there n row rises has = same_rows (row_with n row) row (rises-row_with n row rises) rises
    (λ k. elim (cases_eq n k) [
      | inl e ↦ in-row_with n row k ∙ rw (sym e, eq-eqb n n refl, has) refl
      | inr other ↦ in-row_with n row k ∙ rw (ne_eqb n k other) refl
    ])

-- nor is a pair
pub with_pair-there : (rows : List (List ℕ)) (s w : ℕ) → AllRise rows → has_pair rows s w ≡ true
    → with_pair rows s w ≡ rows
with_pair-there [] s w rise has = refl
with_pair-there (row ∷ rows) zero w rise has = ap (λ r. r ∷ rows) (there w row rise.0 has)
with_pair-there (row ∷ rows) (suc s) w rise has =
    ap (λ rest. row ∷ rest) (with_pair-there rows s w rise.1 has)
