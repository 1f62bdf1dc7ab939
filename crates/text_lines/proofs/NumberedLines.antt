-- Lines that are written one by one, by number.
use Rattle.std.proofs.Common.{ℕ, List, ◌++◌, ◌≡◌, ◌+◌, ◌∙◌, zero, suc, ap, arith, append-nil}
use Rattle.std.proofs.Common.{append_assoc, add-one}
use Rattle.std.specs.List.{flat_map, range_with_len}

lines_from : {X : Type 0} (f : ℕ → List X) (a n : ℕ)
    → flat_map f (range_with_len a (suc n)) ≡ flat_map f (range_with_len a n) ++ f (a + n)
lines_from f a zero = append-nil (f a) ∙ ap f (omega arith)
lines_from f a (suc n) = grind (arith, lines_from f (a + 1) n, append_assoc)

-- the line of the number n after those of the numbers below it
pub lines_more : {X : Type 0} (f : ℕ → List X) (start now next : List X) (n : ℕ)
    → now ≡ start ++ flat_map f (range_with_len 0 n) → next ≡ now ++ f n
    → next ≡ start ++ flat_map f (range_with_len 0 (n + 1))
lines_more f start now next n before one = grind (arith, add-one, lines_from, append_assoc)
