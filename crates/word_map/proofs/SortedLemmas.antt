-- The entries of a table whose words are in order.
use Rattle.std.proofs.Common.{◌≡◌, ℕ, ◌+◌, ◌<◌, List, [], ◌∷◌, ◌++◌, length, get_or, map, Some, sym, refl, ap}
use Rattle.std.proofs.Common.{◌∙◌, subst, arith, append-nil, append_assoc, inl, inr, ◌⊎◌, ⊎_elim}
use Rattle.std.proofs.Math.Seq.{take-length, drop-length}
use Rattle.std.specs.Prelude.{◌↔◌, Contains, All, AllPairs, IsSorted, IsSome, nat_eq}
use Rattle.std.specs.List.{IsDistinct, refill}
use Rattle.std.specs.List.Sorted.{IsSortedBy, IsStrictlySortedBy}
use Rattle.std.specs.Map.{keys_of}
use Rattle.std.specs.Option.{option_map_or}
use Rattle.smallvec.specs.SmallVec.{SmallVec}
use Rattle.std.specs.Cmp.Lexicographic.{pointwise, slice_cmp}
use Rattle.std.specs.Ordering.{nat_cmp, is_lt, ordering_reverse}
use Rattle.std.specs.declared.cmp.Ordering.{Ordering}
use Rattle.std.specs.declared.cmp.Ordering.TheVariants.{Less, Equal, Greater}
use Rattle.std.specs.HashMap.{HashMap, get}
use Rattle.std.proofs.Math.ListN.{get_or-map}
use Rattle.std.proofs.lemmas.Bool.{false≢true}
use Rattle.std.proofs.lemmas.Cmp.{nat_list_cmp_total}
use Rattle.std.proofs.lemmas.List.{flat_map_more, length-map, get_or-map as get_or-map_within}
use Rattle.std.proofs.lemmas.List.Elements.{All-nil, All-push, All-rest, Contains-get_or}
use Rattle.std.proofs.lemmas.List.Elements.{Contains-append_left, Contains-append_right}
use Rattle.std.proofs.lemmas.List.Elements.{Contains-append_cases}
use Rattle.std.proofs.lemmas.Map.Keys.{Less-from_sorted, apart_from_distinct, sorted_from_all_adjacent}
use Rattle.std.proofs.lemmas.Map.Lookups.{exact_bytes}
use Rattle.std.proofs.lemmas.Slice.Eq.{bytes_eq-Decides}
use Rattle.std.proofs.lemmas.Grind.{common_steps}
use Rattle.word_map.specs.Texts.{Pair}
use Rattle.word_map.specs.Entries.{EntryView, AreEntries, DocumentsRise, WordIsBelow, pairs_of_entry}
use Rattle.word_map.specs.Entries.{HavePair, pairs_of_index}
use Rattle.word_map.specs.Table.{documents_of, IsTable, views}
use Rattle.word_map.proofs.EntryLemmas.{first_is_there, have_pair, own_from_pair, pair_of_own}
use Rattle.word_map.proofs.TableLemmas.{found}

-- words in order, no two of them one, rise
words_rise : (words : List (List ℕ)) → IsSorted (slice_cmp nat_cmp) words →
    IsDistinct (pointwise nat_eq) words → IsStrictlySortedBy (slice_cmp nat_cmp) words
words_rise words sorted apart = sorted_from_all_adjacent nat_list_cmp_total words []
    (λ k low. by k low (slice_cmp nat_cmp (get_or words k []) (get_or words (k + 1) [])) refl)
  where
    by : (k : ℕ) → k + 1 < length words → (r : Ordering) →
        slice_cmp nat_cmp (get_or words k []) (get_or words (k + 1) []) ≡ r →
        slice_cmp nat_cmp (get_or words k []) (get_or words (k + 1) []) ≡ Less
    by k low Less is = is
    by k low Equal is = grind (arith, false≢true, apart_from_distinct, bytes_eq-Decides, exact_bytes)
    by k low Greater is =
        let back : slice_cmp nat_cmp (get_or words (k + 1) []) (get_or words k []) ≡ Less =
        nat_list_cmp_total.antisymm (get_or words (k + 1) []) (get_or words k [])
        ∙ ap ordering_reverse is in
        absurd (false≢true (sym (sorted k [] (omega arith) low) ∙ ap is_lt back))

-- entries in the order of their words have their words in order
pub sorted_keys : (entries : List (List ℕ × SmallVec ℕ)) →
    IsSortedBy (λ a b. is_lt (slice_cmp nat_cmp a.0 b.0)) entries → IsSorted (slice_cmp nat_cmp) (keys_of entries)
sorted_keys [] s k d low below = absurd (omega arith)
sorted_keys (e ∷ es) s k d low below =
    let within : k + 1 < length (e ∷ es) = omega (arith, length-map (e ∷ es) (λ p. p.0)) in
    let here = get_or-map_within (λ (p : List ℕ × SmallVec ℕ). p.0) (e ∷ es) k e d (omega arith) in
    let next = get_or-map_within (λ (p : List ℕ × SmallVec ℕ). p.0) (e ∷ es) (k + 1) e d within in
    rw (here, next) (s k e low within)

-- the entries that were made so far of a table, of which some are left
pub record AreMade (table left : List (List ℕ × SmallVec ℕ)) (made : List EntryView) : Type 0 where
  pub words : map (λ (e : EntryView). e.word) made ++ keys_of left ≡ keys_of table
  pub documents : All DocumentsRise made
  pub some : All (λ (e : EntryView). 0 < length e.documents) made
  pub left_some : All (λ (e : List ℕ × SmallVec ℕ). 0 < length e.1.items) left
  pub same : (pair : Pair) → (Contains (pairs_of_index made) pair ⊎ Contains
      (pairs_of_index (views left)) pair) ↔ Contains (pairs_of_index (views table)) pair

-- each entry of a table has a document
entries_have_some : {S : Type 0} (m : HashMap (List ℕ) (SmallVec ℕ) S) → IsTable m →
    All (λ (e : List ℕ × SmallVec ℕ). 0 < length e.1.items) m.entries
entries_have_some m is k d low =
    let e : List ℕ × SmallVec ℕ = get_or m.entries k d in
    let at : get (pointwise nat_eq) m e.0 ≡ Some e.1 = (found m is.unique e.0 e.1).1
    (Contains-get_or m.entries k d low) in
    let documents : documents_of m e.0 ≡ e.1.items = ap
    (λ o. option_map_or (λ (v : SmallVec ℕ). v.items) o []) at in
    subst (λ ds. 0 < length ds) documents (is.some e.0 (subst IsSome (sym at) refl))

-- so a table with a word has a pair
pub table_has_pair : {S : Type 0} (m : HashMap (List ℕ) (SmallVec ℕ) S) → IsTable m →
    (length m.entries ≡ 0 → ⊥) → HavePair (views m.entries)
table_has_pair m is some = by m.entries (entries_have_some m is) some
  where
    by : (es : List (List ℕ × SmallVec ℕ)) → All (λ (e : List ℕ × SmallVec ℕ). 0 < length e.1.items) es →
        (length es ≡ 0 → ⊥) → HavePair (views es)
    by [] each some = absurd (some refl)
    by (e ∷ es) each some = have_pair (views (e ∷ es)) _ (first_is_there _ (views es))
        (each 0 e (omega arith))

pub made_none : {S : Type 0} (m : HashMap (List ℕ) (SmallVec ℕ) S) → IsTable m →
    AreMade m.entries m.entries []
made_none m is = grind (arith, All-nil, entries_have_some)

-- the pairs of the entry, and those of the entry of the table that it was made of
same_own : (entry was : EntryView) → entry.word ≡ was.word →
    ((n : ℕ) → Contains entry.documents n ↔ Contains was.documents n) → (pair : Pair) →
    Contains (pairs_of_entry entry) pair ↔ Contains (pairs_of_entry was) pair
same_own entry was word same pair = (
  (λ h. let own = own_from_pair entry pair h in pair_of_own was pair
      (sym word ∙ own.0, (same pair.document).0 own.1)),
  (λ h. let own = own_from_pair was pair h in pair_of_own entry pair
      (word ∙ own.0, (same pair.document).1 own.1)),
)

-- one more entry
pub made_more : (table left : List (List ℕ × SmallVec ℕ)) (made : List EntryView) (word : List ℕ)
    (documents : SmallVec ℕ) (entry : EntryView) → AreMade table ((word, documents) ∷ left) made →
    entry.word ≡ word → DocumentsRise entry → ((n : ℕ) →
    Contains entry.documents n ↔ Contains documents.items n) → AreMade table left (made ++ entry ∷ [])
made_more table left made word documents entry before is rises same = record {
  words = grind (arith, map_push, append_assoc);
  documents = All-push DocumentsRise made entry before.documents rises;
  some = All-push (λ (e : EntryView). 0 < length e.documents) made entry before.some has_some;
  left_some = All-rest (λ (e : List ℕ × SmallVec ℕ). 0 < length e.1.items) (word, documents) left
      ((word, documents) ∷ left) refl before.left_some;
  same = λ pair. (forth pair, back pair);
}
  where
    was : EntryView
    was = record { word = word; documents = documents.items }

    map_push : (made : List EntryView) (entry : EntryView) →
        map (λ (e : EntryView). e.word) (made ++ entry ∷ []) ≡ map
        (λ (e : EntryView). e.word) made ++ entry.word ∷ []
    map_push [] entry = refl
    map_push (e ∷ made) entry = ap (λ ws. e.word ∷ ws) (map_push made entry)

    has_some : 0 < length entry.documents
    has_some =
        let some : 0 < length documents.items = before.left_some 0 (word, documents) (omega arith) in
        let at = (same (get_or documents.items 0 0)).1 (Contains-get_or documents.items 0 0 some) in
        omega (arith, at.1)

    more : pairs_of_index (made ++ entry ∷ []) ≡ pairs_of_index made ++ pairs_of_entry entry
    more = sym (flat_map_more pairs_of_entry [] made entry)

    forth : (pair : Pair) → Contains (pairs_of_index (made ++ entry ∷ [])) pair ⊎ Contains
        (pairs_of_index (views left)) pair → Contains (pairs_of_index (views table)) pair
    forth pair h = (before.same pair).0 (⊎_elim
        (λ (new : Contains (pairs_of_index (made ++ entry ∷ [])) pair). ⊎_elim
        (λ old. inl old)
        (λ own. inr (Contains-append_left (pairs_of_entry was) (pairs_of_index (views left)) pair
        ((same_own entry was is same pair).0 own)))
        (Contains-append_cases (pairs_of_index made) (pairs_of_entry entry) pair
        (subst (λ ps. Contains ps pair) more new)))
        (λ rest. inr (Contains-append_right (pairs_of_entry was) (pairs_of_index (views left)) pair rest))
        h)

    back : (pair : Pair) → Contains (pairs_of_index (views table)) pair →
        Contains (pairs_of_index (made ++ entry ∷ [])) pair ⊎ Contains (pairs_of_index (views left)) pair
    back pair h = ⊎_elim
        (λ old. inl (subst (λ ps. Contains ps pair) (sym more)
        (Contains-append_left (pairs_of_index made) (pairs_of_entry entry) pair old)))
        (λ others. ⊎_elim
        (λ own. inl (subst (λ ps. Contains ps pair) (sym more)
        (Contains-append_right (pairs_of_index made) (pairs_of_entry entry) pair
        ((same_own entry was is same pair).1 own))))
        (λ rest. inr rest)
        (Contains-append_cases (pairs_of_entry was) (pairs_of_index (views left)) pair others))
        ((before.same pair).1 h)

-- when none is left
pub made_all : (table : List (List ℕ × SmallVec ℕ)) (made : List EntryView) →
    IsSorted (slice_cmp nat_cmp) (keys_of table) → IsDistinct (pointwise nat_eq) (keys_of table) →
    AreMade table [] made → AreEntries made
made_all table made sorted apart all = record { words = words; documents = all.documents; some = all.some }
  where
    is : map (λ (e : EntryView). e.word) made ≡ keys_of table
    is = sym (append-nil (map (λ (e : EntryView). e.word) made)) ∙ all.words

    rise : IsStrictlySortedBy (slice_cmp nat_cmp) (map (λ (e : EntryView). e.word) made)
    rise = subst (IsStrictlySortedBy (slice_cmp nat_cmp)) (sym is) (words_rise (keys_of table) sorted apart)

    words : AllPairs WordIsBelow made
    words i j d low inside =
        let long : length (map (λ (e : EntryView). e.word) made) ≡ length made = simp length-map in
        let less = Less-from_sorted (slice_cmp nat_cmp)
        (map (λ (e : EntryView). e.word) made) i j d.word rise low (omega arith) in
        grind (arith, common_steps, get_or-map)

pub pairs_of_made : (table : List (List ℕ × SmallVec ℕ)) (made : List EntryView) → AreMade table [] made →
    (pair : Pair) → Contains (pairs_of_index made) pair ↔ Contains (pairs_of_index (views table)) pair
pairs_of_made table made all pair = (
  (λ h. (all.same pair).0 (inl h)),
  (λ h. ⊎_elim (λ all. all) (λ none. absurd (omega (arith, none.1))) ((all.same pair).1 h)),
)

-- what is written over a whole list is what is there
pub refill_same : {X : Type 0} (xs ws : List X) → length ws ≡ length xs → refill (length xs) xs ws ≡ ws
refill_same xs ws long = grind (arith, drop-length, append-nil, take-length)
