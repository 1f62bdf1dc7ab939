-- The lines of copies, one split after another.
use Rattle.std.proofs.Common.{◌≡◌, ◌∙◌, ℕ, zero, suc, ◌+◌, ◌≤◌, ◌++◌, List, [], Option, sym, ap}
use Rattle.std.proofs.Common.{arith, subst, append_assoc, append-nil, inl, inr}
use Rattle.std.specs.List.{flat_map}
use Rattle.std.proofs.Math.Numerals.{add-one}
use Rattle.std.proofs.lemmas.Bool.{cases_lt}
use Rattle.std.proofs.lemmas.Grind.{flat_map-append}
use Rattle.text_lines.specs.Streams.{AppendsFront}
use Rattle.command_runner.proofs.Waiting.{front_of_more}
use Rattle.block_map.specs.declared.CopyOrder.{CopyOrder}
use Rattle.block_map.specs.Copies.{Holdings, copies_below, copy_at, one_or_none}

module _ (line : CopyOrder → List ℕ) (bs : List ℕ) where
  both : (xs ys : List CopyOrder) →
      (bs ++ flat_map line xs) ++ flat_map line ys ≡ bs ++ flat_map line (xs ++ ys)
  both xs ys =
      append_assoc bs (flat_map line xs) (flat_map line ys)
      ∙ ap (λ (t : List ℕ). bs ++ t) (sym (flat_map-append line xs ys))

  -- the split n comes next
  pub next_copy : (h : Holdings) (n : ℕ) →
      (bs ++ flat_map line (copies_below h n)) ++ flat_map line (one_or_none (copy_at h n))
      ≡ bs ++ flat_map line (copies_below h (n + 1))
  next_copy h n =
      both (copies_below h n) (one_or_none (copy_at h n))
      ∙ ap (λ (k : ℕ). bs ++ flat_map line (copies_below h k)) (sym (add-one n))

  rest_of : (h : Holdings) (n m : ℕ) → n ≤ m →
      (rest : List CopyOrder) × (copies_below h m ≡ copies_below h n ++ rest)
  rest_of h n zero within =
      let same : zero ≡ n = omega (arith, within) in
      ([], ap (copies_below h) same ∙ sym (append-nil (copies_below h n)))
  rest_of h n (suc m) within = elim (cases_lt m n) [
    | inl past ↦
        let same : suc m ≡ n = omega (arith, within, past) in
        ([], ap (copies_below h) same ∙ sym (append-nil (copies_below h n)))
    | inr before ↦
        let rest = rest_of h n m before in
        let one : List CopyOrder = one_or_none (copy_at h m) in (
          rest.0 ++ one,
          ap (λ (l : List CopyOrder). l ++ one) rest.1 ∙ append_assoc (copies_below h n) rest.0 one,
        )
  ]

  -- a front of the first lines is one of all
  pub front_of_copies : (a b : Option (List ℕ)) (h : Holdings) (n m : ℕ) → n ≤ m →
      AppendsFront a b (bs ++ flat_map line (copies_below h n)) →
      AppendsFront a b (bs ++ flat_map line (copies_below h m))
  front_of_copies a b h n m within front =
      let rest = rest_of h n m within in
      subst (AppendsFront a b)
      (both (copies_below h n) rest.0 ∙ ap (λ (l : List CopyOrder). bs ++ flat_map line l) (sym rest.1))
      (front_of_more a b (bs ++ flat_map line (copies_below h n)) (flat_map line rest.0) front)
