-- The runs of several documents, their words, and the pairs of one part.
use Rattle.std.proofs.Common.{◌≡◌, ℕ, ◌+◌, ◌-◌, ◌<◌, Bool, true, false, cond, List, [], ◌∷◌, ◌++◌, length}
use Rattle.std.proofs.Common.{get_or, take, drop, map, inl, inr, ◌⊎◌, ⊎_elim, sym, refl, ap, ◌∙◌, subst}
use Rattle.std.proofs.Common.{arith}
use Rattle.std.specs.Prelude.{◌↔◌, Contains, Any, filter, slice_range}
use Rattle.std.specs.Char.{is_ascii_alphabetic, to_ascii_lowercase}
use Rattle.std.specs.List.{drop-map, take-map}
use Rattle.std.proofs.Math.ListN.{get_or-map}
use Rattle.std.proofs.lemmas.Bool.{false≢true}
use Rattle.std.proofs.lemmas.Bool.Decides.{nat_tests}
use Rattle.std.proofs.lemmas.Grind.{common_steps}
use Rattle.std.proofs.lemmas.List.{take_more, length-map}
use Rattle.std.proofs.lemmas.List.Elements.{Contains-push, Contains-push_cases, Contains-append_left}
use Rattle.std.proofs.lemmas.List.Elements.{Contains-append_right, Contains-append_cases}
use Rattle.word_map.specs.declared.text.Document.{Document}
use Rattle.word_map.specs.Words.{letter_at, IsLongestRun, IsWordOf}
use Rattle.word_map.specs.Texts.{Pair, IsPairOf, in_lower_case}
use Rattle.word_map.specs.Tokens.{AddsRuns, AreRunsOf, IsRunOfDocument, IsRunIn}

module _ {X : Type 0} where
  pub any_from_member : (P : X → Type 0) (xs : List X) (x : X) → Contains xs x → P x → Any P xs
  any_from_member P xs x at h = (at.0, x, at.1, at.2, h)

  pub member_from_any : (P : X → Type 0) (xs : List X) → Any P xs → (x : X) × Contains xs x × P x
  member_from_any P xs any = (any.1, (any.0, any.2, any.3), any.4)

  pub any_push_cases : (P : X → Type 0) (xs : List X) (y : X) → Any P (xs ++ y ∷ []) → Any P xs ⊎ P y
  any_push_cases P xs y any =
      let m = member_from_any P (xs ++ y ∷ []) any in
      ⊎_elim (λ was. inl (any_from_member P xs m.0 was m.2)) (λ same. inr (subst P (sym same) m.2))
      (Contains-push_cases xs y m.0 m.1)

  pub any_push_old : (P : X → Type 0) (xs : List X) (y : X) → Any P xs → Any P (xs ++ y ∷ [])
  any_push_old P xs y any =
      let m = member_from_any P xs any in
      any_from_member P (xs ++ y ∷ []) m.0 (Contains-append_left xs (y ∷ []) m.0 m.1) m.2

  pub any_push_new : (P : X → Type 0) (xs : List X) (y : X) → P y → Any P (xs ++ y ∷ [])
  any_push_new P xs y h = any_from_member P (xs ++ y ∷ []) y (Contains-push xs y) h

  pub any_weaker : (P Q : X → Type 0) → ((x : X) → P x → Q x) → (xs : List X) → Any P xs → Any Q xs
  any_weaker P Q f xs any = let m = member_from_any P xs any in any_from_member Q xs m.0 m.1 (f m.0 m.2)

-- the runs of one more document
pub runs_of_more : (documents : List Document) {pairs new : List Pair} (i : ℕ) {document : Document} →
    i < length documents → document ≡ get_or documents i document → AreRunsOf (take i documents) pairs →
    AddsRuns pairs new document.text document.number → AreRunsOf (take (i + 1) documents) new
runs_of_more documents {pairs} {new} i {document} inside is runs adds =
    let more : take (i + 1) documents ≡ take i documents ++ document ∷ [] =
    take_more documents i document inside ∙ ap (λ d. take i documents ++ d ∷ []) (sym is) in
    subst (λ ds. AreRunsOf ds new) (sym more) (record {
      exact = λ pair. (
        (λ h. ⊎_elim (λ old. any_push_old (IsRunOfDocument pair) (take i documents) document
            ((runs.exact pair).0 old)) (λ this. any_push_new (IsRunOfDocument pair)
            (take i documents) document this) ((adds.exact pair).0 h)),
        (λ h. (adds.exact pair).1 (⊎_elim (λ old. inl ((runs.exact pair).1 old)) (λ this. inr this)
            (any_push_cases (IsRunOfDocument pair) (take i documents) document h))),
      );
    })

module _ {X : Type 0} (p : X → Bool) where
  from_filter : (x : X) (xs : List X) (y : X) (b : Bool) → p x ≡ b →
      (Contains (filter p xs) y → Contains xs y × (p y ≡ true)) →
      Contains (cond b (x ∷ filter p xs) (filter p xs)) y → Contains (x ∷ xs) y × (p y ≡ true)
  from_filter x xs y true passes more h =
      ⊎_elim
      (λ (first : Contains (x ∷ []) y). (
        Contains-append_left (x ∷ []) xs y first,
        ap p (sym (Contains-one x y first)) ∙ passes,
      ))
      (λ rest. (Contains-append_right (x ∷ []) xs y (more rest).0, (more rest).1))
      (Contains-append_cases (x ∷ []) (filter p xs) y h)
    where
      Contains-one : (x y : X) → Contains (x ∷ []) y → x ≡ y
      Contains-one x y h =
          ⊎_elim (λ none. absurd (omega (arith, none.1))) (λ is. is) (Contains-push_cases [] x y h)
  from_filter x xs y false passes more h = (Contains-append_right (x ∷ []) xs y (more h).0, (more h).1)

  -- what a filter keeps is in the list and passes
  pub Contains-from_filter : (xs : List X) (y : X) → Contains (filter p xs) y → Contains xs y × (p y ≡ true)
  Contains-from_filter [] y h = absurd (omega (arith, h.1))
  Contains-from_filter (x ∷ xs) y h = from_filter x xs y (p x) refl (Contains-from_filter xs y) h

  into_filter : (x : X) (xs : List X) (y : X) (b : Bool) → p x ≡ b → p y ≡ true →
      (Contains xs y → Contains (filter p xs) y) → Contains (x ∷ xs) y →
      Contains (cond b (x ∷ filter p xs) (filter p xs)) y
  into_filter x xs y true is passes more h =
      ⊎_elim (λ first. Contains-append_left (x ∷ []) (filter p xs) y first)
      (λ rest. Contains-append_right (x ∷ []) (filter p xs) y (more rest))
      (Contains-append_cases (x ∷ []) xs y h)
  into_filter x xs y false is passes more h =
      ⊎_elim
      (λ first. ⊎_elim (λ none. absurd (omega (arith, none.1)))
      (λ (same : x ≡ y). absurd (false≢true (sym is ∙ ap p same ∙ passes)))
      (Contains-push_cases [] x y first))
      more
      (Contains-append_cases (x ∷ []) xs y h)

  -- a filter keeps what passes
  pub Contains-filter : (xs : List X) (y : X) → p y ≡ true → Contains xs y → Contains (filter p xs) y
  Contains-filter [] y passes h = h
  Contains-filter (x ∷ xs) y passes h = into_filter x xs y (p x) refl passes (Contains-filter xs y passes) h

-- a text in lower case has letters where the text has them
lower_letter : (b : ℕ) → is_ascii_alphabetic (to_ascii_lowercase b) ≡ is_ascii_alphabetic b
lower_letter b = grind (arith, nat_tests)

letter_at_lower : (text : List ℕ) (place : ℕ) → letter_at (map to_ascii_lowercase text) place
    ≡ letter_at text place
letter_at_lower text place = ap is_ascii_alphabetic (get_or-map to_ascii_lowercase text place 0)
    ∙ lower_letter (get_or text place 0)

length_lower : (text : List ℕ) → length (map to_ascii_lowercase text) ≡ length text
length_lower text = simp length-map

-- and the same longest runs
run_of_lower : (text : List ℕ) {start stop : ℕ} → IsLongestRun (map to_ascii_lowercase text) start stop →
    IsLongestRun text start stop
run_of_lower text {start} {stop} run = record {
  nonempty = run.nonempty;
  within = omega (arith, run.within, length_lower text);
  letters = λ place low high. sym (letter_at_lower text place) ∙ run.letters place low high;
  none_before = λ place is. sym (letter_at_lower text place) ∙ run.none_before place is;
  none_after = λ inside. sym (letter_at_lower text stop) ∙ run.none_after (omega (arith, length_lower text));
}

run_in_lower : (text : List ℕ) {start stop : ℕ} → IsLongestRun text start stop →
    IsLongestRun (map to_ascii_lowercase text) start stop
run_in_lower text {start} {stop} run = grind (arith, length_lower, letter_at_lower)

slice_of_lower : (text : List ℕ) (start stop : ℕ) → slice_range (map to_ascii_lowercase text) start stop
    ≡ map to_ascii_lowercase (slice_range text start stop)
slice_of_lower text start stop = ap (take (stop - start)) (drop-map to_ascii_lowercase start text)
    ∙ take-map to_ascii_lowercase (stop - start) (drop start text)

-- the runs of the text in lower case are the words of the text
pub word_from_run : (text word : List ℕ) → IsRunIn (map to_ascii_lowercase text) word → IsWordOf text word
word_from_run text word h = record {
  start = h.start;
  stop = h.stop;
  run = run_of_lower text h.run;
  lower =
      h.is ∙ slice_of_lower text h.start h.stop;
}

pub run_from_word : (text word : List ℕ) → IsWordOf text word → IsRunIn (map to_ascii_lowercase text) word
run_from_word text word h = search (arith, run_in_lower, slice_of_lower)

-- an element of a mapped list comes from one of the list
pub any_from_map : {X Y : Type 0} (f : X → Y) (P : Y → Type 0) (xs : List X) → Any P (map f xs) →
    Any (λ x. P (f x)) xs
any_from_map f P [] h = absurd (omega (arith, h.2))
any_from_map f P (x ∷ xs) h =
    let m = member_from_any P (f x ∷ map f xs) h in
    ⊎_elim
    (λ (first : Contains (f x ∷ []) m.0). ⊎_elim (λ none. absurd (omega (arith, none.1)))
    (λ (same : f x ≡ m.0). any_from_member (λ x. P (f x)) (x ∷ xs) x
    (Contains-append_left (x ∷ []) xs x (Contains-push [] x)) (subst P (sym same) m.2))
    (Contains-push_cases [] (f x) m.0 first))
    (λ rest. let n =
    member_from_any (λ x. P (f x)) xs (any_from_map f P xs (any_from_member P (map f xs) m.0 rest m.2)) in
    any_from_member (λ x. P (f x)) (x ∷ xs) n.0 (Contains-append_right (x ∷ []) xs n.0 n.1) n.2)
    (Contains-append_cases (f x ∷ []) (map f xs) m.0 m.1)

pub any_map : {X Y : Type 0} (f : X → Y) (P : Y → Type 0) (xs : List X) → Any (λ x. P (f x)) xs →
    Any P (map f xs)
any_map f P [] h = absurd (omega (arith, h.2))
any_map f P (x ∷ xs) h =
    grind (
      arith,
      common_steps,
      Contains-append_left,
      Contains-push,
      Contains-push_cases,
      Contains-append_right,
      Contains-append_cases,
    )

-- the runs of the documents in lower case are the pairs of the documents
pub pairs_of_lower : (documents : List Document) (pair : Pair) →
    Any (IsRunOfDocument pair) (map in_lower_case documents) ↔ IsPairOf documents pair
pairs_of_lower documents pair = (
  (λ h. any_weaker (λ d. IsRunOfDocument pair (in_lower_case d)) (λ d. (d.number ≡ pair.document)
      × IsWordOf d.text pair.word) (λ d e. (sym e.0, word_from_run d.text pair.word e.1)) documents
      (any_from_map in_lower_case (IsRunOfDocument pair) documents h)),
  (λ h. any_map in_lower_case (IsRunOfDocument pair) documents
      (any_weaker (λ d. (d.number ≡ pair.document) × IsWordOf d.text pair.word)
      (λ d. IsRunOfDocument pair (in_lower_case d)) (λ d e. (sym e.0, run_from_word d.text pair.word e.1))
      documents h)),
)
