-- The first byte that passes a test stands at the position of the test.
use Rattle.std.proofs.Common.{ℕ, List, ◌≡◌, Option, Some, None, Bool, true, false, arith, length, ◌<◌, get_or}
use Rattle.std.proofs.Common.{refl}
use Rattle.std.specs.List.{position, position_or_len}
use Rattle.std.proofs.lemmas.Bool.{false_from_ne_true, le-ltb, lt-ltb}
use Rattle.std.proofs.lemmas.List.Sums.{position_or_len_is}
use Rattle.memchr.specs.Find.{IsFirstByte}

pub position-first : (p : ℕ → Bool) (xs : List ℕ) (r : Option ℕ) → IsFirstByte p xs r → r ≡ position p xs
position-first p xs None h =
    let at : position_or_len p xs ≡ length xs =
    position_or_len_is p xs (length xs) 0 (omega arith) (λ k lt. false_from_ne_true _ (h k (omega arith) lt))
    (λ lt. absurd (omega (arith, lt))) in
    rw (at, le-ltb (length xs) (length xs) (omega arith)) refl
position-first p xs (Some k) h = grind (arith, position_or_len_is, false_from_ne_true, lt-ltb)

-- the first place that passes, told by all before it
pub position-at : (p : ℕ → Bool) (xs : List ℕ) (k : ℕ) → k < length xs
    → ((j : ℕ) → j < k → p (get_or xs j 0) ≡ false) → p (get_or xs k 0) ≡ true → Some k ≡ position p xs
position-at p xs k inside before passes = grind (arith, position_or_len_is, lt-ltb)

pub position-nowhere : (p : ℕ → Bool) (xs : List ℕ) → ((j : ℕ) → j < length xs → p (get_or xs j 0) ≡ false)
    → None ≡ position p xs
position-nowhere p xs none =
    let at : position_or_len p xs ≡ length xs =
    position_or_len_is p xs (length xs) 0 (omega arith) none (λ lt. absurd (omega (arith, lt))) in
    rw (at, le-ltb (length xs) (length xs) (omega arith)) refl
