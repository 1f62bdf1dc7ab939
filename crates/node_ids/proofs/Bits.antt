-- What a table of bits holds after one bit was set.
use Rattle.std.proofs.Common.{◌≡◌, ℕ, ◌*◌, ◌/◌, ◌%◌, ◌^◌, ◌<◌, List, length, get_or, set}
use Rattle.std.proofs.Common.{w64, ◌⊎◌, inl, inr, ◌↔◌, arith, sym, ap, ◌∙◌, get_or-set_same}
use Rattle.std.proofs.Common.{get_or-set_other}
use Rattle.std.specs.Int.{bit_at}
use Rattle.std.specs.Int.RustNames.{bit_or}
use Rattle.std.proofs.lemmas.Bool.{cases_eq, eqb-true, eq-eqb}
use Rattle.std.proofs.lemmas.Nat.Bits.{bit_at_set_same, bit_at_set_other}
use Rattle.node_ids.specs.Sets.{Has}

-- the bit of n is 1
abbrev IsSet : List ℕ → ℕ → Type 0
IsSet words n = bit_at (get_or words (n / 64) 0) (n % 64) ≡ 1

-- a number with one bit more
abbrev with_bit : ℕ → ℕ → ℕ
with_bit word k = bit_or word (1 * 2 ^ k % 2 ^ 64)

set_one : (xs : List ℕ) (n k : ℕ) → n < 64 * length xs →
    IsSet (set xs (n / 64) (with_bit (get_or xs (n / 64) 0) (n % 64))) k ↔ ((k ≡ n) ⊎ IsSet xs k)
set_one xs n k h =
    let inside : n / 64 < length xs = omega arith in
    let low : n % 64 < 64 = omega arith in
    let word = with_bit (get_or xs (n / 64) 0) (n % 64) in
    elim (cases_eq (k / 64) (n / 64)) [
      | inr far ↦ grind (arith, get_or-set_other)
      | inl near ↦
          let here : get_or (set xs (n / 64) word) (k / 64) 0 ≡ word = rw near (rw get_or-set_same) in
          elim (cases_eq (k % 64) (n % 64)) [
            | inl e ↦
                let equal : k ≡ n = omega arith in
                (λ _. inl equal, λ _. rw (here, e) (bit_at_set_same w64 (get_or xs (n / 64) 0) (n % 64) low))
            | inr other ↦
                let kept : bit_at word (k % 64) ≡ bit_at (get_or xs (k / 64) 0) (k % 64) =
                rw near (bit_at_set_other w64 (get_or xs (n / 64) 0) (n % 64) low (k % 64) other) in (
                  λ new. inr (sym kept ∙ sym (ap (λ (z : ℕ). bit_at z (k % 64)) here) ∙ new),
                  λ old. elim old [
                    | inl e ↦ absurd (other (ap (λ (z : ℕ). z % 64) e))
                    | inr was ↦
                        ap (λ (z : ℕ). bit_at z (k % 64)) here ∙ kept ∙ was
                  ],
                )
          ]
    ]

pub has-set : (xs : List ℕ) (n k : ℕ) → n < 64 * length xs →
    Has (set xs (n / 64) (with_bit (get_or xs (n / 64) 0) (n % 64))) k ↔ ((k ≡ n) ⊎ Has xs k)
has-set xs n k h = grind (arith, set_one, eqb-true, eq-eqb)
