-- Names and their numbers, and the pairs that are barred.
use Rattle.std.proofs.Common.{ℕ, List, [], ◌∷◌, ◌++◌, ◌≡◌, ◌≢◌, ◌<◌, ◌⊎◌, ◌∙◌, arith, Bool, true, false}
use Rattle.std.proofs.Common.{true≢false, inl, inr, length, max, sym, ap, refl, subst, Option, Some, None, unwrap_or}
use Rattle.std.specs.Prelude.{◌↔◌, IsTrue}
use Rattle.std.specs.List.{Contains, position, position_or_len, slice_index_or}
use Rattle.std.specs.Str.{bytes_eq}
use Rattle.std.proofs.lemmas.Bool.{cases_lt}
use Rattle.std.proofs.lemmas.List.Elements.{Contains-append_left, Contains-push, Contains-push_cases}
use Rattle.std.proofs.lemmas.List.Quantifiers.{position-Some}
use Rattle.std.proofs.lemmas.List.Sums.{fails_before_first, passes_at_first}
use Rattle.std.proofs.lemmas.Slice.Eq.{bytes_eq-Decides}
use Rattle.node_ids.proofs.Positions.{position_found}
use Rattle.text_lines.proofs.Keys.{found}
use Rattle.text_lines.specs.Texts.{Word}
use Rattle.plan_text.specs.Value.{number_in, stands_in}

-- where a name stands first
abbrev first : List Word → Word → ℕ
first names name = position_or_len (bytes_eq name) names

first_within : (names : List Word) (name : Word) → Contains names name → first names name < length names
first_within names name (k, lt, is) = grind (arith, bytes_eq-Decides, cases_lt, fails_before_first)

number_is_first : (names : List Word) (name : Word) → Contains names name
    → number_in names name ≡ first names name
number_is_first names name has =
    grind (arith, first_within, position_found, fails_before_first, passes_at_first)

pub number_within : (names : List Word) (name : Word) → Contains names name
    → number_in names name < length names
number_within names name has = rw (number_is_first names name has) (first_within names name has)

-- also of a name that is none of them
pub number_below : (names : List Word) (name : Word) → number_in names name < max 1 (length names)
number_below names name = by (position (λ n. bytes_eq name n) names) refl
  where
    by : (o : Option ℕ) → position (λ n. bytes_eq name n) names ≡ o → unwrap_or o 0 < max 1 (length names)
    by None is = omega arith
    by (Some i) is = let lt = (position-Some (λ n. bytes_eq name n) names i name is).0 in omega (arith, lt)

-- a number gives its name back
pub name_of_number : (names : List Word) (name d : Word) → Contains names name
    → slice_index_or names (number_in names name) d ≡ name
name_of_number names name d has =
    grind (arith, passes_at_first, first_within, number_is_first, bytes_eq-Decides)

pub numbers_differ : (names : List Word) (a b : Word) → Contains names a → Contains names b
    → a ≢ b → number_in names a ≢ number_in names b
numbers_differ names a b in_a in_b differ same =
    differ (sym (name_of_number names a [] in_a) ∙ ap (λ i. slice_index_or names i []) same
    ∙ name_of_number names b [] in_b)

same_truth : {P : Type 0} (a b : Bool) → (IsTrue a ↔ P) → (IsTrue b ↔ P) → a ≡ b
same_truth true true f g = refl
same_truth false false f g = refl
same_truth true false f g = absurd (true≢false (sym (g.1 (f.0 refl))))
same_truth false true f g = absurd (true≢false (sym (f.1 (g.0 refl))))

pub stands_by : (b : Bool) (names : List Word) (name : Word) → (IsTrue b ↔ Contains names name)
    → b ≡ stands_in names name
stands_by b names name test =
    same_truth b (stands_in names name) test (found bytes_eq bytes_eq-Decides name names)

-- the pairs of a set to which one is put
pub one_more_pair : (front : List (ℕ × ℕ)) (pair : ℕ × ℕ) (s w : ℕ) (New Old : Type 0)
    → (New ↔ (((s ≡ pair.0) × (w ≡ pair.1)) ⊎ Old)) → (Old ↔ Contains front (s, w))
    → New ↔ Contains (front ++ pair ∷ []) (s, w)
one_more_pair front pair s w New Old step before = (
  λ new. elim (step.0 new) [
    | inl here ↦
        subst (Contains (front ++ pair ∷ [])) (λ i. (sym here.0 i, sym here.1 i)) (Contains-push front pair)
    | inr old ↦ Contains-append_left front (pair ∷ []) (s, w) (before.0 old)
  ],
  λ has. step.1 (elim (Contains-push_cases front pair (s, w) has) [
    | inl early ↦ inr (before.1 early)
    | inr is ↦ inl (sym (ap (λ (p : ℕ × ℕ). p.0) is), sym (ap (λ (p : ℕ × ℕ). p.1) is))
  ]),
)
