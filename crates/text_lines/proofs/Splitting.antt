-- Where a list is cut first, and the rest of its parts.
use Rattle.std.proofs.Common.{ℕ, List, [], ◌∷◌, ◌≡◌, ◌+◌, ◌<◌, length, take, drop, Bool, true}
use Rattle.std.proofs.Common.{false, not, ◌-◌, Some, None, refl, arith, cond, length-drop, suc, take_all}
use Rattle.std.specs.List.{position, slice_split, position_or_len}
use Rattle.std.specs.Prelude.{nat_lt}
use Rattle.std.proofs.lemmas.List.Splits.{slice_split_first}
use borrow.Author.Tests.{ltb-false, ltb-true}

chosen : (b : Bool) (n i : ℕ) → cond b (Some n) None ≡ Some i → (b ≡ true) × (n ≡ i)
chosen true n i e = (refl, cc)
chosen false n i e = cc

unchosen : (b : Bool) (n : ℕ) → cond b (Some n) None ≡ None → b ≡ false
unchosen true n e = cc
unchosen false n e = refl

-- the first place that passes, in other words
pub first_at : (p : ℕ → Bool) (xs : List ℕ) (i : ℕ) → position p xs ≡ Some i
    → (position_or_len p xs < length xs) × (position_or_len p xs ≡ i)
first_at p xs i e = let at = chosen _ _ _ e in (ltb-true _ _ at.0, at.1)

-- at the first place that passes
pub cut_some : (p : ℕ → Bool) (xs : List ℕ) (i : ℕ) → position p xs ≡ Some i
    → slice_split p xs ≡ take i xs ∷ slice_split p (drop (i + 1) xs)
cut_some p xs i e = grind (arith, first_at, slice_split_first)

none_step : (b : Bool) (n m : ℕ)
    → cond (nat_lt (cond (not b) (1 + n) 0) (suc m)) (Some (cond (not b) (1 + n) 0)) None ≡ None
    → (b ≡ false) × (cond (nat_lt n m) (Some n) None ≡ None)
none_step true n m e = absurd (omega (arith, ltb-false 0 (suc m) (unchosen (nat_lt 0 (suc m)) 0 e)))
none_step false n m e = grind arith

none_cons : (p : ℕ → Bool) (x : ℕ) (xs : List ℕ) → position p (x ∷ xs) ≡ None
    → (p x ≡ false) × (position p xs ≡ None)
none_cons p x xs e = none_step (p x) (position_or_len p xs) (length xs) e

-- nowhere, where no place passes
pub cut_none : (p : ℕ → Bool) (xs : List ℕ) → position p xs ≡ None → slice_split p xs ≡ xs ∷ []
cut_none p [] e = refl
cut_none p (x ∷ xs) e =
    let h = none_cons p x xs e in
    rw (h.0, cut_none p xs h.1) refl

-- what is left once some were dropped
pub all_of_rest : (n : ℕ) (xs : List ℕ) → take (length xs - n) (drop n xs) ≡ drop n xs
all_of_rest n xs = take_all (length xs - n) (drop n xs) (rw (length-drop n xs) (omega arith))
