-- The spaces among the first bytes of a line, each as a bit of a number.
use Rattle.std.proofs.Common.{◌≡◌, ◌∙◌, ◌==◌, ◌+◌, ◌<◌, ◌≤◌, ℕ, List, Bool, true, false, ap, arith, cond, get_or, leb, length, map, refl, sym}
use Rattle.std.specs.Int.{bit_at}
use Rattle.std.specs.Simd.Lanes.{chunk, mask_l}
use Rattle.std.proofs.Math.ListN.{get_or-map}
use Rattle.std.proofs.lemmas.Bool.{eqb-true, leb-false, leb-true}
use Rattle.std.proofs.lemmas.List.{get_or_past}
use Rattle.std.proofs.lemmas.Simd.{bit_mask_l, get_or-chunk, length-chunk}

abbrev pub spaces_in : List ℕ → ℕ
spaces_in line = mask_l (map (λ b. b == 32) (chunk 0 8 line))

front : (line : List ℕ) (k : ℕ) → k < 8 → get_or (chunk 0 8 line) k 0 ≡ get_or line k 0
front line k lt =
    let same : 0 + k ≡ k = omega arith in
    get_or-chunk 0 8 line k 0 lt ∙ ap (λ i. get_or line i 0) same

bit : (line : List ℕ) (k : ℕ) → bit_at (spaces_in line) k ≡ cond (get_or (chunk 0 8 line) k 0 == 32) 1 0
bit line k =
    bit_mask_l (map (λ b. b == 32) (chunk 0 8 line)) k
    ∙ ap (λ b. cond b 1 0) (get_or-map (λ b. b == 32) (chunk 0 8 line) k 0)

-- each space has its bit
pub space_marked : (line : List ℕ) (k : ℕ) → k < 8 → get_or line k 0 ≡ 32 → bit_at (spaces_in line) k ≡ 1
space_marked line k lt is = bit line k ∙ ap (λ b. cond (b == 32) 1 0) (front line k lt ∙ is)

put_true : (b : Bool) → cond {A = ℕ} b 1 0 ≡ 1 → b ≡ true
put_true true is = refl
put_true false is = absurd (omega (arith, is))

-- each bit is that of a space
pub marked_space : (line : List ℕ) (k : ℕ) → 8 ≤ length line → bit_at (spaces_in line) k ≡ 1
    → (k < 8) × (get_or line k 0 ≡ 32)
marked_space line k long set =
    by (leb 8 k) refl (eqb-true _ 32 (put_true _ (sym (bit line k) ∙ set)))
  where
    by : (b : Bool) → leb 8 k ≡ b → get_or (chunk 0 8 line) k 0 ≡ 32 → (k < 8) × (get_or line k 0 ≡ 32)
    by true past is =
        let none : get_or (chunk 0 8 line) k 0 ≡ 0 =
        get_or_past (chunk 0 8 line) k 0 (omega (arith, length-chunk 0 8 line long, leb-true 8 k past)) in
        absurd (omega (arith, none, is))
    by false before is =
        let lt : k < 8 = omega (arith, leb-false 8 k before) in
        (lt, sym (front line k lt) ∙ is)
