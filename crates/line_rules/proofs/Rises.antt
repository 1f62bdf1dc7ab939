-- When the prices of places, which stand after the first word, do not fall.
use Rattle.std.proofs.Common.{ℕ, List, [], ◌≡◌, ◌≤◌, ◌<◌, ◌+◌, ◌-◌, ◌∙◌, Some, ap, arith, drop, get_or, inl, inr}
use Rattle.std.proofs.Common.{length, length-drop, map, refl, subst, suc, sym, zero}
use Rattle.std.specs.Borrow.{Bor}
use Rattle.std.specs.List.Sorted.{IsNonDecreasingBy}
use Rattle.std.proofs.lemmas.Bool.{cases_lt}
use Rattle.std.proofs.lemmas.Grind.{get_or_after_one}
use Rattle.std.proofs.lemmas.List.{get_or_default, get_or-map}
use Rattle.std.proofs.lemmas.List.Sorted.{IsNonDecreasingBy-from_all_adjacent}
use Rattle.text_lines.specs.Texts.{Word, number_of}
use Rattle.line_shapes.proofs.Each.{meet_in, nothing}
use Rattle.line_shapes.specs.Demands.{IsNumberWithin, IsWithinIn}
use Rattle.line_shapes.specs.Lines.{IsInRange, stated}
use Rattle.line_shapes.specs.Places.{place_at}
use Rattle.line_shapes.specs.declared.demand.Demand.TheVariants.{Range}
use Rattle.line_shapes.specs.declared.keyword.Keyword.TheVariants.{Places}
use Rattle.line_shapes.specs.declared.place.Place.TheVariants.{Number}
use Rattle.line_rules.proofs.EachPlace.{past_places}

-- ---- each word past the first is a price

price_place : (i : ℕ) → 1 ≤ i → place_at Places i ≡ Some (Number 0 68719476736)
price_place zero past = absurd (omega (arith, past))
price_place (suc zero) past = refl
price_place (suc (suc i)) past = past_places Places (suc (suc i)) (omega arith)

pub is_price : (w : Word) (i : ℕ) → 1 ≤ i → IsWithinIn (place_at Places i) w → IsNumberWithin 0 68719476736 w
is_price w i past within = subst (λ place. IsWithinIn place w) (price_place i past) within

pub price_there : (words : List (Bor (List ℕ))) → IsInRange (stated Places words) → (i : ℕ) → 1 ≤ i
    → i < length words → IsNumberWithin 0 68719476736 (get_or words i nothing).now
price_there words within i past lt =
    is_price (get_or words i nothing).now i past (meet_in Range Places words within i nothing lt)

-- ---- the prices among all words

abbrev number_at : List Word → ℕ → ℕ
number_at ws i = number_of (get_or ws i [])

pub told_at : (words : List (Bor (List ℕ))) (i : ℕ) → i < length words
    → number_at (map (λ w. w.now) words) i ≡ number_of (get_or words i nothing).now
told_at words i lt = ap number_of (get_or-map (λ w. w.now) words i nothing [] lt)

-- none before this place is lower than the one before it
abbrev pub AreRisingTo : List Word → ℕ → Type 0
AreRisingTo ws high = (k : ℕ) → 1 ≤ k → k + 1 < high → number_at ws k ≤ number_at ws (k + 1)

pub rising_more : (ws : List Word) (i : ℕ) → AreRisingTo ws i → number_at ws (i - 1) ≤ number_at ws i
    → AreRisingTo ws (i + 1)
rising_more ws i before here k past lt = elim (cases_lt (k + 1) i) [
  | inl early ↦ before k past early
  | inr late ↦
      let last : i ≡ k + 1 = omega (arith, lt, late) in
      let first : i - 1 ≡ k = omega (arith, last) in
      omega (arith, here, ap (number_at ws) last, ap (number_at ws) first)
]

-- a price by its place among the prices
price_at : (ws : List Word) (k m : ℕ) (d : Word) → m ≡ 1 + k → m < length ws
    → number_of (get_or (drop 1 ws) k d) ≡ number_at ws m
price_at ws k m d is lt =
    ap number_of (get_or_after_one ws k d ∙ get_or_default ws (1 + k) d [] (omega (arith, is, lt)))
    ∙ ap (number_at ws) (sym is)

pub all_rise : (ws : List Word) → AreRisingTo ws (length ws) → IsNonDecreasingBy number_of (drop 1 ws)
all_rise ws rising =
    IsNonDecreasingBy-from_all_adjacent number_of (drop 1 ws)
    (λ k d lt.
    let inside : k + 1 + 1 < length ws = omega (arith, lt, length-drop 1 ws) in
    omega (
      arith,
      rising (k + 1) (omega arith) inside,
      price_at ws k (k + 1) d (omega arith) (omega (arith, inside)),
      price_at ws (k + 1) (k + 1 + 1) d (omega arith) inside,
    ))

pub one_falls : (ws : List Word) (i : ℕ) → 2 ≤ i → i < length ws → number_at ws i < number_at ws (i - 1)
    → IsNonDecreasingBy number_of (drop 1 ws) → ⊥
one_falls ws i past lt falls rising =
    let inside : i - 1 < length (drop 1 ws) = omega (arith, lt, past, length-drop 1 ws) in
    omega (
      arith,
      falls,
      rising (i - 2) (i - 1) [] (omega (arith, past)) inside,
      price_at ws (i - 2) (i - 1) [] (omega (arith, past)) (omega (arith, past, lt)),
      price_at ws (i - 1) i [] (omega (arith, past)) lt,
    )
