-- Words that are compared by their first four bytes and their last four.
use Rattle.std.proofs.Common.{◌≡◌, ◌∙◌, ◌-◌, ◌≤◌, ◌++◌, ◌∷◌, [], ℕ, List, Bool, true, false, ap, arith, cond, drop, eqb, get_or, length, refl, sym, take, take_all}
use Rattle.std.specs.Int.{bit_at}
use Rattle.std.specs.Simd.Lanes.{mask_l, zip2}
use Rattle.std.proofs.lemmas.Bool.{eqb-true}
use Rattle.std.proofs.lemmas.List.{length-drop, take-append-drop, take-take}
use Rattle.std.proofs.lemmas.Simd.{bit_mask_l}

-- the lanes in which two lists are the same, each as a bit
abbrev pub same_in : List ℕ → List ℕ → ℕ
same_in xs ys = mask_l (zip2 eqb xs ys)

put_true : (b : Bool) → cond {A = ℕ} b 1 0 ≡ 1 → b ≡ true
put_true true is = refl
put_true false is = absurd (omega (arith, is))

equal : (a : ℕ) → eqb a a ≡ true
equal a = by (eqb a a) refl
  where
    by : (b : Bool) → eqb a a ≡ b → b ≡ true
    by true is = refl
    by false is = grind (arith, is)

-- four lanes are the same where each bit is set
pub same_all : (xs ys : List ℕ) → length xs ≡ 4 → length ys ≡ 4 → same_in xs ys ≡ 15 → xs ≡ ys
same_all (a ∷ b ∷ c ∷ d ∷ []) (e ∷ f ∷ g ∷ h ∷ []) four more is =
    let lanes = eqb a e ∷ eqb b f ∷ eqb c g ∷ eqb d h ∷ [] in
    let bit : (k : ℕ) → bit_at 15 k ≡ cond (get_or lanes k false) 1 0 =
    λ k. sym (ap (λ m. bit_at m k) is) ∙ bit_mask_l lanes k in
    let first = eqb-true a e (put_true (eqb a e) (sym (bit 0))) in
    let second = eqb-true b f (put_true (eqb b f) (sym (bit 1))) in
    let third = eqb-true c g (put_true (eqb c g) (sym (bit 2))) in
    let fourth = eqb-true d h (put_true (eqb d h) (sym (bit 3))) in
    λ i. first i ∷ second i ∷ third i ∷ fourth i ∷ []
same_all xs ys four more is = grind (arith, four, more)

pub all_same : (xs : List ℕ) → length xs ≡ 4 → same_in xs xs ≡ 15
all_same (a ∷ b ∷ c ∷ d ∷ []) four =
    λ i. mask_l (equal a i ∷ equal b i ∷ equal c i ∷ equal d i ∷ [])
all_same xs four = grind (arith, four)

module _ (a b : List ℕ) (m : ℕ) (long : length a ≡ length b) (is : m ≡ length a - 4) (least : 4 ≤ length a)
    (most : length a ≤ 8) where
  -- words of 4 to 8 bytes with the same first four and the same last four
  pub same_word : take 4 a ≡ take 4 b → take 4 (drop m a) ≡ take 4 (drop m b) → a ≡ b
  same_word first last =
      let front : take m a ≡ take m b =
      sym (take_of a) ∙ ap (take m) first ∙ take_of b in
      let behind : drop m a ≡ drop m b =
      sym (take_all 4 (drop m a) (omega (arith, length-drop m a, is)))
      ∙ last ∙ take_all 4 (drop m b) (omega (arith, length-drop m b, is, long)) in
      sym (take-append-drop m a) ∙ (λ i. front i ++ behind i) ∙ take-append-drop m b
    where
      take_of : (xs : List ℕ) → take m (take 4 xs) ≡ take m xs
      take_of xs = take-take m 4 xs (omega (arith, is, most))

  -- the last four, as a slice has them
  pub last_part : (w : List ℕ) → length w ≡ length a → take 4 (take (length w - m) (drop m w)) ≡ take 4 (drop m w)
  last_part w same = take-take 4 (length w - m) (drop m w) (omega (arith, is, same, least))
