-- Barred pairs, one after another, as rows.
use Rattle.std.proofs.Common.{◌≡◌, ℕ, ◌<◌, ◌&&◌, ◌||◌, ◌∙◌, List, [], ◌∷◌, ◌++◌, All, length, Bool, false}
use Rattle.std.proofs.Common.{zero, suc, refl, sym, arith, subst, inl, inr}
use Rattle.std.specs.Prelude.{◌==◌, if◌then◌else◌}
use Rattle.std.specs.List.{fold, list_any}
use Rattle.std.proofs.lemmas.Bool.{cases_Bool}
use Rattle.std.proofs.lemmas.List.{length-replicate}
use Rattle.std.proofs.lemmas.List.Elements.{All-head, All-push, All-tail}
use Rattle.std.proofs.lemmas.List.Sums.{fold-append}
use Rattle.node_ids.specs.Sets.{has_pair, no_pairs, row_with, with_pair}
use Rattle.node_ids.proofs.Rising.{AllRise, none-rise, rise-with_pair, with_pair-there}
use Rattle.node_ids.proofs.Rows.{has-with_pair}
use Rattle.node_ids.proofs.Updating.{length-updated}
use Rattle.worker_table.specs.Bars.{in_rows}

abbrev pub same_pair : ℕ × ℕ → ℕ × ℕ → Bool
same_pair p q = (p.0 == q.0) && (p.1 == q.1)

-- each pair is of one of so many splits
abbrev pub AreKnown : ℕ → List (ℕ × ℕ) → Type 0
AreKnown splits pairs = All (λ pair. pair.0 < splits) pairs

-- the rows with these pairs put in
abbrev pub put_in : List (List ℕ) → List (ℕ × ℕ) → List (List ℕ)
put_in rows pairs = fold (λ now pair. with_pair now pair.0 pair.1) rows pairs

length-put_in : (rows : List (List ℕ)) (pairs : List (ℕ × ℕ)) → length (put_in rows pairs) ≡ length rows
length-put_in rows [] = refl
length-put_in rows (p ∷ pairs) =
    length-put_in (with_pair rows p.0 p.1) pairs ∙ length-updated (row_with p.1) rows p.0

rise-put_in : (rows : List (List ℕ)) (pairs : List (ℕ × ℕ)) → AllRise rows → AllRise (put_in rows pairs)
rise-put_in rows [] rise = rise
rise-put_in rows (p ∷ pairs) rise =
    rise-put_in (with_pair rows p.0 p.1) pairs (rise-with_pair rows p.0 p.1 rise)

has-put_in : (rows : List (List ℕ)) (pairs : List (ℕ × ℕ)) (s w : ℕ) → AreKnown (length rows) pairs
    → has_pair (put_in rows pairs) s w ≡ (list_any (same_pair (s, w)) pairs || has_pair rows s w)
has-put_in rows [] s w known = refl
has-put_in rows (p ∷ pairs) s w known =
    let first : p.0 < length rows = All-head (λ pair. pair.0 < length rows) p pairs known in
    let others : AreKnown (length (with_pair rows p.0 p.1)) pairs =
    subst (λ n. AreKnown n pairs) (sym (length-updated (row_with p.1) rows p.0))
    (All-tail (λ pair. pair.0 < length rows) p pairs known) in
    let rest = has-put_in (with_pair rows p.0 p.1) pairs s w others in
    let here = has-with_pair rows p.0 p.1 s w first in
    grind (arith, rest, here)

none_has : (splits s w : ℕ) → has_pair (no_pairs splits) s w ≡ false
none_has zero s w = refl
none_has (suc n) zero w = refl
none_has (suc n) (suc s) w = none_has n s w

pub length-in_rows : (splits : ℕ) (pairs : List (ℕ × ℕ)) → length (in_rows splits pairs) ≡ splits
length-in_rows splits pairs = length-put_in (no_pairs splits) pairs ∙ length-replicate splits []

known_in : (splits : ℕ) (pairs : List (ℕ × ℕ)) → AreKnown splits pairs
    → AreKnown (length (no_pairs splits)) pairs
known_in splits pairs known = subst (λ n. AreKnown n pairs) (sym (length-replicate splits [])) known

-- the rows have exactly the pairs
pub has-in_rows : (splits : ℕ) (pairs : List (ℕ × ℕ)) (s w : ℕ) → AreKnown splits pairs
    → has_pair (in_rows splits pairs) s w ≡ list_any (same_pair (s, w)) pairs
has-in_rows splits pairs s w known =
    let has = has-put_in (no_pairs splits) pairs s w (known_in splits pairs known) in
    grind (arith, has, none_has splits s w)

-- the pairs with one more, if it is not there
abbrev pub with_one : List (ℕ × ℕ) → ℕ × ℕ → List (ℕ × ℕ)
with_one pairs p = if list_any (same_pair p) pairs then pairs else pairs ++ p ∷ []

pub known-with_one : (splits : ℕ) (pairs : List (ℕ × ℕ)) (p : ℕ × ℕ) → AreKnown splits pairs → p.0 < splits
    → AreKnown splits (with_one pairs p)
known-with_one splits pairs p known own = elim (cases_Bool (list_any (same_pair p) pairs)) [
  | inl has ↦ rw has known
  | inr not ↦ rw not (All-push (λ pair. pair.0 < splits) pairs p known own)
]

-- and their rows
pub rows-with_one : (splits : ℕ) (pairs : List (ℕ × ℕ)) (p : ℕ × ℕ) → AreKnown splits pairs
    → in_rows splits (with_one pairs p) ≡ with_pair (in_rows splits pairs) p.0 p.1
rows-with_one splits pairs p known = elim (cases_Bool (list_any (same_pair p) pairs)) [
  | inl has ↦ rw has (sym (with_pair-there (in_rows splits pairs) p.0 p.1
      (rise-put_in (no_pairs splits) pairs (none-rise splits)) (has-in_rows splits pairs p.0 p.1 known ∙ has)))
  | inr not ↦ rw not (fold-append (λ now pair. with_pair now pair.0 pair.1) (no_pairs splits) pairs (p ∷ []))
]
