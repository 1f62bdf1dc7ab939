-- What each word after a keyword has, in its place, where words past the places are more or fewer.
use Rattle.std.proofs.Common.{ℕ, List, [], ◌∷◌, ◌++◌, ◌≡◌, ◌≤◌, ◌<◌, ◌+◌, ◌-◌, ◌∙◌, Option}
use Rattle.std.proofs.Common.{ap, arith, get_or, inl, inr, length, length-append}
use Rattle.std.proofs.Common.{subst, sym}
use Rattle.std.specs.List.{All, Contains}
use Rattle.std.proofs.lemmas.Bool.{cases_lt}
use Rattle.std.proofs.lemmas.List.{get_or_append_left, get_or-append-add, get_or_default}
use Rattle.std.proofs.lemmas.List.Elements.{All-cons, All-contains, All-nil}
use Rattle.std.proofs.lemmas.Option.{slice_get_past}
use Rattle.text_lines.specs.Texts.{Word}
use Rattle.line_shapes.specs.Places.{more_of, or_more, place_at, places_of}
use Rattle.line_shapes.specs.declared.keyword.Keyword.{Keyword}
use Rattle.line_shapes.specs.declared.place.Place.{Place}

abbrev pub EachIn : (Option Place → Word → Type 0) → Keyword → List Word → Type 0
EachIn P k ws = (i : ℕ) → i < length ws → P (place_at k i) (get_or ws i [])

-- no place of its own is left for a word past the places
pub past_places : (k : Keyword) (i : ℕ) → length (places_of k) ≤ i → place_at k i ≡ more_of k
past_places k i past = ap (λ place. or_more place (more_of k)) (slice_get_past (places_of k) i past)

each_front : (P : Option Place → Word → Type 0) (k : Keyword) (ws xs : List Word) → EachIn P k (ws ++ xs)
    → EachIn P k ws
each_front P k ws xs each i lt =
    subst (P (place_at k i)) (get_or_append_left ws xs [] i lt)
    (each i (omega (arith, length-append ws xs, lt)))

pub each_tail : (P : Option Place → Word → Type 0) (k : Keyword) (ws xs : List Word)
    → length (places_of k) ≤ length ws → EachIn P k (ws ++ xs) → All (P (more_of k)) xs
each_tail P k ws xs past each i d lt =
    let here : P (place_at k (length ws + i)) (get_or (ws ++ xs) (length ws + i) []) =
    each (length ws + i) (omega (arith, length-append ws xs, lt)) in
    subst (P (more_of k)) (get_or-append-add ws xs i [] ∙ get_or_default xs i [] d lt)
    (subst (λ place. P place (get_or (ws ++ xs) (length ws + i) []))
    (past_places k (length ws + i) (omega (arith, past))) here)

each_both : (P : Option Place → Word → Type 0) (k : Keyword) (ws xs : List Word)
    → length (places_of k) ≤ length ws → EachIn P k ws → All (P (more_of k)) xs → EachIn P k (ws ++ xs)
each_both P k ws xs past front tail i lt = elim (cases_lt i (length ws)) [
  | inl early ↦ subst (P (place_at k i)) (sym (get_or_append_left ws xs [] i early)) (front i early)
  | inr late ↦
      let j = i - length ws in
      let at : i ≡ length ws + j = omega (arith, late) in
      let inside : j < length xs = omega (arith, length-append ws xs, lt, late) in
      let last : P (place_at k (length ws + j)) (get_or (ws ++ xs) (length ws + j) []) =
      subst (λ place. P place (get_or (ws ++ xs) (length ws + j) []))
      (sym (past_places k (length ws + j) (omega (arith, past))))
      (subst (P (more_of k)) (sym (get_or-append-add ws xs j [])) (tail j [] inside)) in
      subst (λ n. P (place_at k n) (get_or (ws ++ xs) n [])) (sym at) last
]

-- the words with one for all of the others have what all have, and the other way round where one is worst
pub each_less : (P : Option Place → Word → Type 0) (k : Keyword) (ws vs : List Word) (v : Word)
    → length (places_of k) ≤ length ws → Contains vs v → EachIn P k (ws ++ vs) → EachIn P k (ws ++ v ∷ [])
each_less P k ws vs v past one each =
    let each_v : P (more_of k) v = All-contains (P (more_of k)) vs v (each_tail P k ws vs past each) one in
    each_both P k ws (v ∷ []) past (each_front P k ws vs each) (All-cons (P (more_of k)) v [] each_v
    (All-nil (P (more_of k))))

pub each_last : (P : Option Place → Word → Type 0) (k : Keyword) (ws : List Word) (v : Word)
    → length (places_of k) ≤ length ws → EachIn P k (ws ++ v ∷ []) → P (more_of k) v
each_last P k ws v past each = each_tail P k ws (v ∷ []) past each 0 v (omega arith)

pub each_more : (P : Option Place → Word → Type 0) (k : Keyword) (ws vs : List Word) (v : Word)
    → length (places_of k) ≤ length ws → All (P (more_of k)) vs → EachIn P k (ws ++ v ∷ [])
    → EachIn P k (ws ++ vs)
each_more P k ws vs v past tail each = each_both P k ws vs past (each_front P k ws (v ∷ []) each) tail
