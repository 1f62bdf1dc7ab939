-- A table's pairs, by its words and as a list.
use Rattle.std.proofs.Common.{[], ◌≡◌, ℕ, ◌+◌, ◌<◌, Bool, true, false, cond, get_or, take, List, ◌∷◌, ◌++◌}
use Rattle.std.proofs.Common.{length, Some, None, Option, sym, refl, ap, ◌∙◌, subst, arith, inl, inr}
use Rattle.std.proofs.Common.{◌⊎◌, ⊎_elim}
use Rattle.std.specs.Prelude.{◌↔◌, Contains, Any, nat_eq}
use Rattle.std.specs.Option.{option_map_or}
use Rattle.smallvec.specs.SmallVec.{SmallVec}
use Rattle.std.specs.Cmp.Lexicographic.{pointwise, nat_list_eq_equiv}
use Rattle.std.specs.HashMap.{HashMap, get, IsUnique, Updates}
use Rattle.std.proofs.lemmas.Bool.{false≢true}
use Rattle.std.proofs.lemmas.List.{flat_map_more, take_more}
use Rattle.std.proofs.lemmas.List.Elements.{Contains-append_left, Contains-append_right}
use Rattle.std.proofs.lemmas.List.Elements.{Contains-append_cases}
use Rattle.std.specs.List.Sorted.{IsPermutation}
use Rattle.std.proofs.lemmas.List.Sorted.{Contains-permutation, IsPermutation-map, IsPermutation-sym}
use Rattle.std.proofs.lemmas.Map.Views.{hash_map_get_iff}
use Rattle.std.proofs.lemmas.Slice.Eq.{bytes_eq-Decides}
use Rattle.word_map.specs.Texts.{Pair}
use Rattle.word_map.specs.Entries.{EntryView, pairs_of_entry, pairs_of_index}
use Rattle.word_map.specs.Table.{documents_of, Has, IsTable, views, AddsPairs}
use Rattle.word_map.proofs.EntryLemmas.{HasPair, own_from_pair, pair_of_own, pair_in_entries, entries_of_pair}
use Rattle.word_map.proofs.PairLemmas.{any_map, any_from_map, any_from_member, member_from_any}

module _ {S : Type 0} (m : HashMap (List ℕ) (SmallVec ℕ) S) (unique : IsUnique (pointwise nat_eq) m) where
  pub found : (w : List ℕ) (d : SmallVec ℕ) → (get (pointwise nat_eq) m w ≡ Some d) ↔ Contains m.entries
      (w, d)
  found w d = hash_map_get_iff nat_list_eq_equiv (λ x y. (bytes_eq-Decides x y).0) m unique w d

  from_found : (p : Pair) (o : Option (SmallVec ℕ)) → get (pointwise nat_eq) m p.word ≡ o →
      Contains (option_map_or (λ (d : SmallVec ℕ). d.items) o []) p.document →
      Any (λ (e : List ℕ × SmallVec ℕ). (e.0 ≡ p.word) × Contains e.1.items p.document) m.entries
  from_found p None is h = absurd (omega (arith, h.1))
  from_found p (Some d) is h = any_from_member (λ (e : List ℕ × SmallVec ℕ). (e.0 ≡ p.word)
      × Contains e.1.items p.document) m.entries (p.word, d) ((found p.word d).0 is) (refl, h)

  -- the pairs of the table's entries are what it has
  pub pairs_of_table : (p : Pair) → Contains (pairs_of_index (views m.entries)) p ↔ Has m p.word p.document
  pairs_of_table p = (
    (λ h.
        let e = member_from_any (λ (e : List ℕ × SmallVec ℕ). (e.0 ≡ p.word)
        × Contains e.1.items p.document) m.entries
        (any_from_map (λ (e : List ℕ × SmallVec ℕ). let v : EntryView =
        record { word = e.0; documents = e.1.items } in v) (HasPair p) m.entries
        (entries_of_pair (views m.entries) p h)) in
        let at : get (pointwise nat_eq) m p.word ≡ Some e.0.1 =
        (found p.word e.0.1).1 (subst (λ w. Contains m.entries (w, e.0.1)) e.2.0 e.1) in
        subst (λ o. Contains (option_map_or (λ (d : SmallVec ℕ). d.items) o []) p.document) (sym at) e.2.1),
    (λ h. pair_in_entries (views m.entries) p
        (any_map (λ (e : List ℕ × SmallVec ℕ). let v : EntryView =
        record { word = e.0; documents = e.1.items } in v) (HasPair p) m.entries
        (from_found p (get (pointwise nat_eq) m p.word) refl h))),
  )

-- what a table has more than before, its entries' pairs have more
pub adds_pairs : {S : Type 0} {m n : HashMap (List ℕ) (SmallVec ℕ) S} (Added : List ℕ → ℕ → Type 0) →
    IsTable m → IsTable n → ((w : List ℕ) (k : ℕ) → Has n w k ↔ (Has m w k ⊎ Added w k)) →
    AddsPairs (views m.entries) (views n.entries) (λ pair. Added pair.word pair.document)
adds_pairs {S} {m} {n} Added was is adds = record {
  exact = λ pair. (
    (λ h. ⊎_elim (λ old. inl ((pairs_of_table m was.unique pair).1 old)) (λ new. inr new)
        ((adds pair.word pair.document).0 ((pairs_of_table n is.unique pair).0 h))),
    (λ h. (pairs_of_table n is.unique pair).1 ((adds pair.word pair.document).1
        (⊎_elim (λ old. inl ((pairs_of_table m was.unique pair).0 old)) (λ new. inr new) h))),
  );
}

-- one more entry's pairs
pub adds_more : (entries : List EntryView) (i : ℕ) (entry : EntryView) {old new newer : List EntryView} →
    i < length entries → entry ≡ get_or entries i entry →
    AddsPairs old new (Contains (pairs_of_index (take i entries))) →
    AddsPairs new newer (Contains (pairs_of_entry entry)) → AddsPairs old newer
    (Contains (pairs_of_index (take (i + 1) entries)))
adds_more entries i entry {old} {new} {newer} inside is before adds =
    let more : pairs_of_index (take (i + 1) entries) ≡ pairs_of_index
    (take i entries) ++ pairs_of_entry entry = ap pairs_of_index
    (take_more entries i entry inside ∙ ap (λ e. take i entries ++ e ∷ []) (sym is))
    ∙ sym (flat_map_more pairs_of_entry [] (take i entries) entry) in
    record {
      exact = λ pair. subst (λ ps. Contains (pairs_of_index newer) pair ↔
          (Contains (pairs_of_index old) pair ⊎ Contains ps pair)) (sym more) (
            (λ h. ⊎_elim
                (λ was. ⊎_elim (λ o. inl o) (λ front. inr
                (Contains-append_left (pairs_of_index (take i entries))
                (pairs_of_entry entry) pair front)) ((before.exact pair).0 was))
                (λ this. inr (Contains-append_right (pairs_of_index (take i entries))
                (pairs_of_entry entry) pair this))
                ((adds.exact pair).0 h)),
            (λ h. (adds.exact pair).1 (⊎_elim
                (λ o. inl ((before.exact pair).1 (inl o)))
                (λ added. ⊎_elim (λ front. inl ((before.exact pair).1 (inr front))) (λ this. inr this)
                (Contains-append_cases (pairs_of_index (take i entries)) (pairs_of_entry entry) pair added))
                h)),
          );
    }

-- the pairs of an entry are its word with its documents
pub adds_entry : (entry : EntryView) {old new : List EntryView} →
    AddsPairs old new (λ pair. (pair.word ≡ entry.word) × Contains entry.documents pair.document) →
    AddsPairs old new (Contains (pairs_of_entry entry))
adds_entry entry {old} {new} adds = record {
  exact = λ pair. (
    (λ h. ⊎_elim (λ o. inl o) (λ (own : (pair.word ≡ entry.word) × Contains entry.documents pair.document).
        inr (pair_of_own entry pair (sym own.0, own.1))) ((adds.exact pair).0 h)),
    (λ h. (adds.exact pair).1 (⊎_elim (λ o. inl o) (λ own. let is =
        own_from_pair entry pair own in inr (sym is.0, is.1)) h)),
  );
}

-- the documents of a word are more
pub documents_more : {S : Type 0} (m n : HashMap (List ℕ) (SmallVec ℕ) S) (word : List ℕ)
    (was is : SmallVec ℕ) (numbers : List ℕ) → get (pointwise nat_eq) m word ≡ Some was →
    Updates (pointwise nat_eq) m n word (Some is) → is.items ≡ was.items ++ numbers → (w : List ℕ) (k : ℕ) →
    Has n w k ↔ (Has m w k ⊎ ((w ≡ word) × Contains numbers k))
documents_more m n word was is numbers at updates more w k = by (pointwise nat_eq word w) refl
  where
    by : (b : Bool) → pointwise nat_eq word w ≡ b → Has n w k ↔
        (Has m w k ⊎ ((w ≡ word) × Contains numbers k))
    by true e =
        let same : word ≡ w = (bytes_eq-Decides word w).0 e in
        let new : documents_of n w ≡ was.items ++ numbers =
        ap (λ o. option_map_or (λ (d : SmallVec ℕ). d.items) o [])
        (updates.0 w ∙ ap (λ b. cond b (Some is) (get (pointwise nat_eq) m w)) e) ∙ more in
        let old : documents_of m w ≡ was.items = ap (λ o. option_map_or
        (λ (d : SmallVec ℕ). d.items) o []) (ap (get (pointwise nat_eq) m) (sym same) ∙ at) in (
          (λ h. ⊎_elim (λ o. inl (subst (λ ds. Contains ds k) (sym old) o)) (λ this. inr (sym same, this))
              (Contains-append_cases was.items numbers k (subst (λ ds. Contains ds k) new h))),
          (λ h. subst (λ ds. Contains ds k) (sym new) (⊎_elim
              (λ o. Contains-append_left was.items numbers k (subst (λ ds. Contains ds k) old o))
              (λ (this : (w ≡ word) × Contains numbers k).
              Contains-append_right was.items numbers k this.1) h)),
        )
    by false e = grind (arith, false≢true, bytes_eq-Decides)

pairs_of_permutation : (xs ys : List EntryView) → IsPermutation xs ys → (pair : Pair) →
    Contains (pairs_of_index xs) pair → Contains (pairs_of_index ys) pair
pairs_of_permutation xs ys moved pair h =
    let m = member_from_any (HasPair pair) xs (entries_of_pair xs pair h) in
    pair_in_entries ys pair (any_from_member (HasPair pair) ys m.0
    (Contains-permutation xs ys m.0 moved m.1) m.2)

-- entries in another order have the same pairs
pub pairs_of_reordered : (xs ys : List (List ℕ × SmallVec ℕ)) → IsPermutation xs ys → (pair : Pair) →
    Contains (pairs_of_index (views xs)) pair ↔ Contains (pairs_of_index (views ys)) pair
pairs_of_reordered xs ys moved pair =
    search (arith, IsPermutation-map, pairs_of_permutation, IsPermutation-sym)
