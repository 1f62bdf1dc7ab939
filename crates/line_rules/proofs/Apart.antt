-- Words that differ, each of them one of some, are no more than those.
use Rattle.std.proofs.Common.{ℕ, List, [], ◌∷◌, ◌≡◌, ◌≢◌, ◌≤◌, ◌<◌, ◌∙◌, Bool, true, false, inl, inr, ap}
use Rattle.std.proofs.Common.{arith, cond, get_or, length, map, refl, suc, sym, true≢false, zero}
use Rattle.std.specs.List.{All, AllPairs, Contains}
use Rattle.std.specs.Str.{bytes_eq}
use Rattle.std.proofs.lemmas.Bool.{cases_lt}
use Rattle.std.proofs.lemmas.List.{get_or-map, length-map}
use Rattle.std.proofs.lemmas.Slice.Eq.{bytes_eq-Decides}
use Rattle.indexmap.proofs.IndexTableLemmas.Probe.{pigeonhole}
use Rattle.text_lines.specs.Texts.{Word}
use Rattle.line_shapes.specs.Lines.{Statement}
use Rattle.line_shapes.specs.declared.keyword.Keyword.{Keyword}
use Rattle.line_rules.specs.Entering.{Key, key_of}
use Rattle.line_rules.specs.Known.{HasRow, rows_of}
use Rattle.line_rules.proofs.OfKeyword.{there_numbered}

-- where a word stands in a list
abbrev place_in : List Word → Word → ℕ
place_in [] w = zero
place_in (v ∷ vs) w = cond (bytes_eq v w) zero (suc (place_in vs w))

record StandsAt (vs : List Word) (w : Word) (i : ℕ) : Type 0 where
  inside : i < length vs
  is : get_or vs i [] ≡ w

stands_there : (vs : List Word) (w : Word) → Contains vs w → StandsAt vs w (place_in vs w)
stands_there [] w (i, lt, is) = absurd (omega (arith, lt))
stands_there (v ∷ vs) w there = by (bytes_eq v w) refl (λ h. stands_there vs w h) there
  where
    by : (b : Bool) → bytes_eq v w ≡ b → (Contains vs w → StandsAt vs w (place_in vs w)) → Contains (v ∷ vs) w
        → StandsAt (v ∷ vs) w (cond b zero (suc (place_in vs w)))
    by true is rest there = record { inside = omega arith; is = (bytes_eq-Decides v w).0 is }
    by false is rest (zero, lt, here) = absurd (true≢false (sym ((bytes_eq-Decides v w).1 here) ∙ is))
    by false is rest (suc i, lt, later) =
        let at = rest (i, omega (arith, lt), later) in
        record { inside = omega (arith, at.inside); is = at.is }

pub few_apart : (ws vs : List Word) → AllPairs (λ a b. a ≢ b) ws → All (Contains vs) ws
    → length ws ≤ length vs
few_apart ws vs apart among =
    let at : ℕ → ℕ = λ i. place_in vs (get_or ws i []) in
    let found : (i : ℕ) → i < length ws → StandsAt vs (get_or ws i []) (at i) =
    λ i lt. stands_there vs (get_or ws i []) (among i [] lt) in
    let same : (i j : ℕ) → i < length ws → j < length ws → at i ≡ at j → get_or ws i [] ≡ get_or ws j [] =
    λ i j p q e. sym (found i p).is ∙ ap (λ n. get_or vs n []) e ∙ (found j q).is in
    pigeonhole (length ws) (length vs) at (λ i lt. (found i lt).inside)
    (λ i j p q e. elim (cases_lt i j) [
      | inl before ↦ absurd (apart i j [] before q (same i j p q e))
      | inr not_before ↦ elim (cases_lt j i) [
        | inl after ↦ absurd (apart j i [] after p (same j i q p (sym e)))
        | inr not_after ↦ omega (arith, not_before, not_after)
      ]
    ])

-- the first words of the rows of a keyword
abbrev names_of : Keyword → List Statement → List Word
names_of k rows = map (λ s. (key_of s).1) (rows_of k rows)

named_there : (k : Keyword) (rows : List Statement) (w : Word) → HasRow rows k w
    → Contains (names_of k rows) w
named_there k rows w there =
    let row = there_numbered rows (k, w, []) there in
    let n : ℕ = row.0 in
    let inside : n < length (rows_of k rows) = row.1.inside in (
      n,
      rw length-map inside,
      get_or-map (λ s. (key_of s).1) (rows_of k rows) n (record { keyword = k; words = [] }) w inside
          ∙ ap (λ (key : Key). key.1) row.1.is,
    )

-- names that differ are no more than there are rows of the keyword that declares them
pub few_names : (k : Keyword) (rows : List Statement) (ws : List Word) → AllPairs (λ a b. a ≢ b) ws
    → All (HasRow rows k) ws → length ws ≤ length (rows_of k rows)
few_names k rows ws apart declared =
    let few : length ws ≤ length (names_of k rows) =
    few_apart ws (names_of k rows) apart (λ i d lt. named_there k rows _ (declared i d lt)) in
    rw length-map at few
