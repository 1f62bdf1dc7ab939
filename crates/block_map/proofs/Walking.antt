-- A worker that becomes a holder of the members of a set, one after another.
use Rattle.std.proofs.Common.{◌≡◌, ℕ, zero, suc, ◌+◌, ◌-◌, ◌<◌, ◌≤◌, Bool, true, false, List, [], ◌∷◌, ◌++◌}
use Rattle.std.proofs.Common.{length, map, take, get_or, inl, inr, refl, sym, ap, ◌∙◌, arith}
use Rattle.std.specs.Prelude.{◌==◌, if◌then◌else◌}
use Rattle.std.specs.List.{enumerate_from}
use Rattle.std.specs.List.Sorted.{IsNonDecreasing}
use Rattle.std.proofs.lemmas.Bool.{cases_Bool, cases_eq, eq-eqb, ne_eqb, true≢false}
use Rattle.std.proofs.lemmas.Grind.{get_or_default_zero}
use Rattle.std.proofs.lemmas.List.{get_or-take, length-take-le}
use Rattle.std.proofs.lemmas.List.Folds.{list_any_at, list_any_more, list_any_none}
use Rattle.node_ids.specs.Sets.{is_in_row}
use Rattle.node_ids.specs.Updates.{updated}
use Rattle.block_map.specs.declared.HolderLimit.{HolderLimit}
use Rattle.block_map.specs.Holdings.{are_full, has_full_among, holders_of, with_holder, with_holder_of_all}

-- the holders of the splits from n on, where w also holds each split that passes the test
abbrev given_from : ℕ → (ℕ → Bool) → ℕ → List (List ℕ) → List (List ℕ)
given_from n test w lists =
    map (λ place. if test place.0 then place.1 ++ w ∷ [] else place.1) (enumerate_from n lists)

given_none : (n w : ℕ) (lists : List (List ℕ)) → given_from n (λ s. false) w lists ≡ lists
given_none n w [] = refl
given_none n w (holders ∷ lists) = ap (λ ys. holders ∷ ys) (given_none (n + 1) w lists)

given_same : (n : ℕ) (one two : ℕ → Bool) (w : ℕ) (lists : List (List ℕ))
    → ((s : ℕ) → n ≤ s → one s ≡ two s) → given_from n one w lists ≡ given_from n two w lists
given_same n one two w [] agree = refl
given_same n one two w (holders ∷ lists) agree =
    let first : one n ≡ two n = agree n (omega arith) in
    let rest = given_same (n + 1) one two w lists (λ s le. agree s (omega (arith, le))) in
    λ k. (if first k then holders ++ w ∷ [] else holders) ∷ rest k

-- the second test holds of one split more
given_more : (n k s : ℕ) (one two : ℕ → Bool) (w : ℕ) (lists : List (List ℕ)) → s ≡ n + k
    → one s ≡ false → two s ≡ true → ((t : ℕ) → (t ≡ s → ⊥) → one t ≡ two t)
    → given_from n two w lists ≡ updated (λ holders. holders ++ w ∷ []) (given_from n one w lists) k
given_more n k s one two w [] at off on agree = refl
given_more n zero s one two w (holders ∷ lists) at off on agree =
    let here : s ≡ n = omega (arith, at) in
    let old : one n ≡ false = ap one (sym here) ∙ off in
    let new : two n ≡ true = ap two (sym here) ∙ on in
    let rest = given_same (n + 1) one two w lists (λ t le. agree t (λ e. omega (arith, le, e, here))) in
    rw (old, new) (ap (λ ys. (holders ++ w ∷ []) ∷ ys) (sym rest))
given_more n (suc k) s one two w (holders ∷ lists) at off on agree =
    let first : one n ≡ two n = agree n (λ e. omega (arith, at, e)) in
    let rest = given_more (n + 1) k s one two w lists (omega (arith, at)) off on agree in
    λ i. (if sym first i then holders ++ w ∷ [] else holders) ∷ rest i

-- where the test does not hold, the holders are those from before
given_off : (n k s : ℕ) (test : ℕ → Bool) (w : ℕ) (lists : List (List ℕ)) → s ≡ n + k → test s ≡ false
    → get_or (given_from n test w lists) k [] ≡ get_or lists k []
given_off n k s test w [] at off = refl
given_off n zero s test w (holders ∷ lists) at off =
    let here : s ≡ n = omega (arith, at) in
    let not : test n ≡ false = ap test (sym here) ∙ off in
    rw not refl
given_off n (suc k) s test w (holders ∷ lists) at off =
    given_off (n + 1) k s test w lists (omega (arith, at)) off

pub walk_none : (lists : List (List ℕ)) (w : ℕ) → with_holder_of_all lists [] w ≡ lists
walk_none lists w = given_none 0 w lists

pub walk_more : (lists : List (List ℕ)) (row : List ℕ) (i w : ℕ) → i < length row
    → is_in_row (take i row) (get_or row i 0) ≡ false
    → with_holder_of_all lists (take (i + 1) row) w
    ≡ with_holder (with_holder_of_all lists (take i row) w) (get_or row i 0) w
walk_more lists row i w inside new =
    let m : ℕ = get_or row i 0 in
    let more = λ (s : ℕ). list_any_more (λ v. v == s) row i 0 inside in
    given_more 0 m m (is_in_row (take i row)) (is_in_row (take (i + 1) row)) w lists (omega arith) new
    (more m ∙ rw (new, eq-eqb m m refl) refl)
    (λ t other. let off = ne_eqb m t (λ e. other (sym e)) in sym (more t ∙ rw off (grind arith)))

pub walk_same : (lists : List (List ℕ)) (row : List ℕ) (i w : ℕ) → i < length row
    → is_in_row (take i row) (get_or row i 0) ≡ true
    → with_holder_of_all lists (take (i + 1) row) w ≡ with_holder_of_all lists (take i row) w
walk_same lists row i w inside old =
    let m : ℕ = get_or row i 0 in
    let more = λ (s : ℕ). list_any_more (λ v. v == s) row i 0 inside in
    given_same 0 (is_in_row (take (i + 1) row)) (is_in_row (take i row)) w lists
    (λ t le. more t ∙ elim (cases_eq m t) [
      | inl e ↦ let there : is_in_row (take i row) t ≡ true = ap (is_in_row (take i row)) (sym e) ∙ old in
          rw there refl
      | inr other ↦ rw (ne_eqb m t other) (grind arith)
    ])

-- a member that did not stand before is not full
pub walk_room : (limit : HolderLimit) (lists : List (List ℕ)) (row : List ℕ) (i w : ℕ) → i < length row
    → is_in_row (take i row) (get_or row i 0) ≡ false → has_full_among limit lists row ≡ false
    → are_full limit (holders_of (with_holder_of_all lists (take i row) w) (get_or row i 0)) ≡ false
walk_room limit lists row i w inside new few =
    let m : ℕ = get_or row i 0 in
    ap (are_full limit) (given_off 0 m m (is_in_row (take i row)) w lists (omega arith) new)
    ∙ elim (cases_Bool (are_full limit (holders_of lists m))) [
      | inl full ↦ absurd (true≢false
          (sym (list_any_at (λ s. are_full limit (holders_of lists s)) row i 0 inside full) ∙ few))
      | inr not ↦ not
    ]

-- in a rising row those like a member stand beside it
pub in_before : (row : List ℕ) (i : ℕ) → IsNonDecreasing row → i < length row → 0 < i
    → is_in_row (take i row) (get_or row i 0) ≡ (get_or row (i - 1) 0 == get_or row i 0)
in_before row i rising inside some =
    let m : ℕ = get_or row i 0 in
    let last : ℕ = get_or row (i - 1) 0 in
    let size : length (take i row) ≡ i = length-take-le i row (omega (arith, inside)) in
    let up : last ≤ m = rising (i - 1) i 0 (omega arith) inside in
    elim (cases_eq last m) [
      | inl e ↦
          let at = get_or-take i row (i - 1) 0 (omega (arith, some)) in
          list_any_at (λ v. v == m) (take i row) (i - 1) 0 (omega (arith, size, some))
          (rw at (eq-eqb last m e))
          ∙ sym (eq-eqb last m e)
      | inr other ↦
          list_any_none (λ v. v == m) (take i row) (λ k d lt. ne_eqb _ m (λ e.
          let few : k < i = omega (arith, lt, size) in
          let le : get_or row k 0 ≤ last = rising k (i - 1) 0 (omega (arith, few)) (omega (arith, inside)) in
          let same = get_or-take i row k d few ∙ get_or_default_zero row k d (omega (arith, few, inside)) in
          omega (arith, le, up, other, e, same)))
          ∙ sym (ne_eqb last m other)
    ]

-- past the end an update changes nothing
pub updated_past : {X : Type 0} (change : X → X) (xs : List X) (n : ℕ) → length xs ≤ n
    → updated change xs n ≡ xs
updated_past change [] n past = refl
updated_past change (x ∷ xs) zero past = absurd (omega (arith, past))
updated_past change (x ∷ xs) (suc n) past =
    ap (λ ys. x ∷ ys) (updated_past change xs n (omega (arith, past)))
