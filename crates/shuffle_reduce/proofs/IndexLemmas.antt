-- The index from the results of all parts.
use Rattle.std.proofs.Common.{◌≡◌, Bool, true, false, cond, ℕ, ◌+◌, ◌<◌, List, [], ◌∷◌, ◌++◌, length, get_or}
use Rattle.std.proofs.Common.{take, sym, refl, ap, ◌∙◌, subst, arith}
use Rattle.std.specs.Prelude.{◌↔◌, ◌==◌, Contains, All, Any, count_by, fold}
use Rattle.std.proofs.lemmas.Bool.{eqb-true}
use Rattle.std.proofs.lemmas.List.{take_more}
use Rattle.std.proofs.lemmas.List.Elements.{All-push, All-contains, Contains-push, Contains-append_left}
use Rattle.std.proofs.lemmas.List.Elements.{Contains-append_right}
use Rattle.word_map.specs.declared.text.Document.{Document}
use Rattle.word_map.specs.Words.{part_of, IsWordOf}
use Rattle.word_map.specs.Texts.{Pair, SplitDocuments, IsPairOf}
use Rattle.word_map.specs.Entries.{EntryView, AreEntries, pairs_of_index}
use Rattle.word_map.proofs.PairLemmas.{any_from_member, member_from_any}
use Rattle.word_map.proofs.EntryLemmas.{pairs_of_entries_rise}
use Rattle.shuffle_reduce.specs.Merged.{PartView, IsPairOfTexts, IsPartOf, AreSameTexts, HaveWord}
use Rattle.shuffle_reduce.specs.Gather.{GathersResults}
use Rattle.shuffle_reduce.specs.Indexed.{HasMissing, IsIndexOf, IsIndexOfDocuments, AreDocumentsOf}

found_at : {X : Type 0} (p : X → Bool) (x : X) (xs : List X) (b : Bool) → p x ≡ b →
    ((count_by p xs ≡ 0 → ⊥) → Any (λ y. p y ≡ true) xs) → (count_by p (x ∷ xs) ≡ 0 → ⊥) →
    Any (λ y. p y ≡ true) (x ∷ xs)
found_at p x xs true passes more h = any_from_member (λ y. p y ≡ true) (x ∷ xs) x
    (Contains-append_left (x ∷ []) xs x (Contains-push [] x)) passes
found_at p x xs false fails more h =
    let rest = member_from_any (λ y. p y ≡ true) xs (more
    (λ none. h (ap (λ b. fold (λ a y. a + cond (p y) 1 0) (0 + cond b 1 0) xs) fails ∙ none))) in
    any_from_member (λ y. p y ≡ true) (x ∷ xs) rest.0 (Contains-append_right (x ∷ []) xs rest.0 rest.1) rest.2

-- what is counted is there
pub found : {X : Type 0} (p : X → Bool) (xs : List X) → (count_by p xs ≡ 0 → ⊥) → Any (λ y. p y ≡ true) xs
found p [] h = absurd (h refl)
found p (x ∷ xs) h = found_at p x xs (p x) refl (found p xs) h

-- the same texts have the same pairs
same_pairs : (xs ys : List SplitDocuments) (pair : Pair) →
    ((text : SplitDocuments) → Contains xs text → Contains ys text) → IsPairOfTexts xs pair →
    IsPairOfTexts ys pair
same_pairs xs ys pair same any = search (arith, member_from_any, any_from_member)

-- a word of a result's texts is one of the texts that it covers
pub word_of_covered : (texts : List SplitDocuments) (results : List PartView) →
    All (λ (part : PartView). AreSameTexts part.texts texts) results →
    Any (λ (part : PartView). HaveWord part.texts) results → HaveWord texts
word_of_covered texts results covers any =
    let m = member_from_any (λ (r : PartView). HaveWord r.texts) results any in
    let covered = All-contains (λ (r : PartView). AreSameTexts r.texts texts) results m.0 covers m.1 in
    (m.2.0, same_pairs m.0.texts texts m.2.0 (λ text. (covered text).0) m.2.1)

-- the pairs of all parts are those of the texts
pub pairs_of_all_parts : (texts : List SplitDocuments) (results : List PartView)
    (parts : ℕ) {pairs : List Pair} → 0 < parts → GathersResults results pairs →
    All (λ (part : PartView). AreSameTexts part.texts texts) results →
    All (λ (part : PartView). part.parts ≡ parts) results → (HasMissing results parts → ⊥) → (pair : Pair) →
    Contains pairs pair ↔ IsPairOfTexts texts pair
pairs_of_all_parts texts results parts {pairs} some gathers covers same whole pair = (
  (λ h.
      let m = member_from_any (λ (r : PartView). Contains r.pairs pair) results
      ((gathers.members pair).0 h) in
      let fact = All-contains
      (λ (r : PartView). IsPartOf r.texts r.part r.parts r.pairs) results m.0 gathers.results_are m.1 in
      let covered = All-contains (λ (r : PartView). AreSameTexts r.texts texts) results m.0 covers m.1 in
      same_pairs m.0.texts texts pair (λ text. (covered text).0) ((fact.exact pair).0 m.2).0),
  (λ h.
      let low : part_of pair.word parts < parts = omega arith in
      let m = member_from_any (λ (r : PartView). (r.part == part_of pair.word parts) ≡ true) results
      (found (λ (r : PartView). r.part == part_of pair.word parts) results
      (λ none. whole (part_of pair.word parts, low, none))) in
      let fact = All-contains
      (λ (r : PartView). IsPartOf r.texts r.part r.parts r.pairs) results m.0 gathers.results_are m.1 in
      let covered = All-contains (λ (r : PartView). AreSameTexts r.texts texts) results m.0 covers m.1 in
      let of_parts = All-contains (λ (r : PartView). r.parts ≡ parts) results m.0 same m.1 in
      let part_is = eqb-true m.0.part (part_of pair.word parts) m.2 in
      (gathers.members pair).1 (any_from_member (λ (r : PartView). Contains r.pairs pair) results m.0 m.1
      ((fact.exact pair).1 (
        same_pairs texts m.0.texts pair (λ text. (covered text).1) h,
        ap
            (part_of pair.word) of_parts ∙ sym part_is,
      )))),
)

-- the index, from the entries of what was gathered
pub index_from_entries : (texts : List SplitDocuments) (table entries : List EntryView) →
    ((pair : Pair) → Contains (pairs_of_index table) pair ↔ IsPairOfTexts texts pair) → AreEntries entries →
    ((pair : Pair) → Contains (pairs_of_index entries) pair ↔ Contains (pairs_of_index table) pair) →
    IsIndexOf texts entries
index_from_entries texts table entries exact are same = record {
  words = are.words;
  rising = pairs_of_entries_rise entries are.words are.documents;
  some = are.some;
  exact = λ pair. ((λ h. (exact pair).0 ((same pair).0 h)), (λ h. (same pair).1 ((exact pair).1 h)));
}

-- a pair of texts is one of their documents
pairs_of_documents : (texts : List SplitDocuments) (documents : List Document) →
    AreDocumentsOf texts documents → (pair : Pair) → IsPairOfTexts texts pair ↔ IsPairOf documents pair
pairs_of_documents texts documents are pair = (
  (λ h.
      let text = member_from_any (λ (t : SplitDocuments). IsPairOf t.documents pair) texts h in
      let document = member_from_any (λ (d : Document). (d.number ≡ pair.document)
      × IsWordOf d.text pair.word) text.0.documents text.2 in
      any_from_member (λ (d : Document). (d.number ≡ pair.document)
      × IsWordOf d.text pair.word) documents document.0
      ((are document.0).1 (any_from_member (λ (t : SplitDocuments).
      Contains t.documents document.0) texts text.0 text.1 document.1)) document.2),
  (λ h.
      let document = member_from_any (λ (d : Document). (d.number ≡ pair.document)
      × IsWordOf d.text pair.word) documents h in
      let text = member_from_any (λ (t : SplitDocuments). Contains t.documents document.0) texts
      ((are document.0).0 document.1) in
      any_from_member (λ (t : SplitDocuments). IsPairOf t.documents pair) texts text.0 text.1
      (any_from_member (λ (d : Document). (d.number ≡ pair.document)
      × IsWordOf d.text pair.word) text.0.documents document.0 text.2 document.2)),
)

-- the index of texts is that of their documents
pub index_of_documents : (texts : List SplitDocuments) (documents : List Document)
    (entries : List EntryView) → IsIndexOf texts entries → AreDocumentsOf texts documents →
    IsIndexOfDocuments documents entries
index_of_documents texts documents entries index are = record {
  words = index.words;
  rising = index.rising;
  some = index.some;
  exact = λ pair. let same = pairs_of_documents texts documents are pair in
      ((λ h. same.0 ((index.exact pair).0 h)), (λ h. (index.exact pair).1 (same.1 h)));
}

-- a part that is counted is one of the parts
pub part_in_range : (results : List PartView) (parts part : ℕ) →
    All (λ (one : PartView). one.part < one.parts) results →
    All (λ (one : PartView). one.parts ≡ parts) results →
    0 < count_by (λ (one : PartView). one.part == part) results → part < parts
part_in_range results parts part in_range same some =
    grind (arith, member_from_any, found, All-contains, eqb-true)

-- what holds of the elements up to one, and of that one
pub all_more : {X : Type 0} (P : X → Type 0) (xs : List X) (i : ℕ) {x : X} → i < length xs →
    x ≡ get_or xs i x → All P (take i xs) → P x → All P (take (i + 1) xs)
all_more P xs i {x} inside is before here =
    subst (All P) (sym (take_more xs i x inside ∙ ap (λ y. take i xs ++ y ∷ []) (sym is)))
    (All-push P (take i xs) x before here)

-- what holds of all holds of one
pub all_at : {X : Type 0} (P : X → Type 0) (xs : List X) (i : ℕ) {x : X} → i < length xs →
    x ≡ get_or xs i x → All P xs → P x
all_at P xs i {x} inside is all = subst P (sym is) (all i x inside)
