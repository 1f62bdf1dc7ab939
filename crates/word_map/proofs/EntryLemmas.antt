-- The pairs of entries: which they are, and that they rise.
use Rattle.std.proofs.Common.{◌≡◌, ℕ, suc, ◌<◌, List, [], ◌∷◌, ◌++◌, length, map, get_or, sym, refl, ap}
use Rattle.std.proofs.Common.{⊎_elim, subst, arith}
use Rattle.std.specs.Prelude.{Contains, Any, All, AllPairs}
use Rattle.std.specs.List.{AllByRecursion}
use Rattle.std.specs.List.Sorted.{IsStrictlySortedBy}
use Rattle.std.specs.Cmp.Lexicographic.{slice_cmp}
use Rattle.std.specs.Ordering.{nat_cmp, ordering_then}
use Rattle.std.specs.declared.cmp.Ordering.{Ordering}
use Rattle.std.specs.declared.cmp.Ordering.TheVariants.{Less}
use Rattle.std.proofs.lemmas.Cmp.{nat_list_cmp_total, tied_itself}
use Rattle.std.proofs.lemmas.Grind.{common_steps}
use Rattle.std.proofs.lemmas.List.Elements.{All-append, All-from_recursion, recursion_from_All, All-contains}
use Rattle.std.proofs.lemmas.List.Elements.{Contains-get_or, Contains-push, Contains-push_cases}
use Rattle.std.proofs.lemmas.List.Elements.{Contains-append_left, Contains-append_right}
use Rattle.std.proofs.lemmas.List.Elements.{Contains-append_cases}
use Rattle.word_map.specs.Texts.{Pair}
use Rattle.word_map.specs.Runs.{AreRisingPairs, pair_cmp}
use Rattle.word_map.specs.Entries.{EntryView, pair_of, pairs_of_entry, pairs_of_index, WordIsBelow}
use Rattle.word_map.specs.Entries.{DocumentsRise, HavePair}
use Rattle.word_map.proofs.PairLemmas.{any_from_member, member_from_any, any_map, any_from_map}
use Rattle.word_map.proofs.RunLemmas.{same_pair}

-- the pair is one of the entry's
abbrev pub HasPair : Pair → EntryView → Type 0
HasPair pair entry = (entry.word ≡ pair.word) × Contains entry.documents pair.document

pub own_from_pair : (e : EntryView) (p : Pair) → Contains (pairs_of_entry e) p → HasPair p e
own_from_pair e p h =
    let m = member_from_any (λ (d : ℕ). pair_of e.word d ≡ p) e.documents
    (any_from_map (pair_of e.word) (λ (q : Pair). q ≡ p) e.documents
    (any_from_member (λ (q : Pair). q ≡ p) (pairs_of_entry e) p h refl)) in
    (ap (λ (q : Pair). q.word) m.2, subst (Contains e.documents) (ap (λ (q : Pair). q.document) m.2) m.1)

pub pair_of_own : (e : EntryView) (p : Pair) → HasPair p e → Contains (pairs_of_entry e) p
pair_of_own e p h = grind (arith, common_steps, member_from_any, any_map, any_from_member, same_pair)

module _ {X : Type 0} where
  pub first_is_there : (x : X) (xs : List X) → Contains (x ∷ xs) x
  first_is_there x xs = Contains-append_left (x ∷ []) xs x (Contains-push [] x)

  pub only_one : (x y : X) → Contains (x ∷ []) y → x ≡ y
  only_one x y h = ⊎_elim (λ none. absurd (omega (arith, none.1))) (λ is. is) (Contains-push_cases [] x y h)

-- a pair of the entries is a pair of one of them
pub entries_of_pair : (es : List EntryView) (p : Pair) → Contains (pairs_of_index es) p → Any (HasPair p) es
entries_of_pair [] p h = absurd (omega (arith, h.1))
entries_of_pair (e ∷ es) p h =
    ⊎_elim
    (λ own. any_from_member (HasPair p) (e ∷ es) e (first_is_there e es) (own_from_pair e p own))
    (λ rest. let m = member_from_any (HasPair p) es (entries_of_pair es p rest) in
    any_from_member (HasPair p) (e ∷ es) m.0 (Contains-append_right (e ∷ []) es m.0 m.1) m.2)
    (Contains-append_cases (pairs_of_entry e) (pairs_of_index es) p h)

pub pair_in_entries : (es : List EntryView) (p : Pair) → Any (HasPair p) es → Contains (pairs_of_index es) p
pair_in_entries [] p any = absurd (omega (arith, any.2))
pair_in_entries (e ∷ es) p any =
    let m = member_from_any (HasPair p) (e ∷ es) any in
    ⊎_elim
    (λ first. Contains-append_left (pairs_of_entry e) (pairs_of_index es) p
    (pair_of_own e p (subst (HasPair p) (sym (only_one e m.0 first)) m.2)))
    (λ rest. Contains-append_right (pairs_of_entry e) (pairs_of_index es) p
    (pair_in_entries es p (any_from_member (HasPair p) es m.0 rest m.2)))
    (Contains-append_cases (e ∷ []) es m.0 m.1)

-- entries of which one has a document have a pair
pub have_pair : (es : List EntryView) (e : EntryView) → Contains es e → 0 < length e.documents → HavePair es
have_pair es e there some =
    let p : Pair = pair_of e.word (get_or e.documents 0 0) in (
      p,
      pair_in_entries es p (any_from_member (HasPair p) es e there
          (refl, Contains-get_or e.documents 0 0 some)),
    )

-- rising lists, each element of the first below each of the second, rise together
sorted_append : {K : Type 0} (R : K → K → Ordering) (xs ys : List K) → IsStrictlySortedBy R xs →
    IsStrictlySortedBy R ys → ((x y : K) → Contains xs x → Contains ys y → R x y ≡ Less) →
    IsStrictlySortedBy R (xs ++ ys)
unfolding IsStrictlySortedBy
sorted_append R [] ys rising rises below = rises
sorted_append R (x ∷ xs) ys rising rises below = (
  recursion_from_All (λ y. R x y ≡ Less) (xs ++ ys) (All-append (λ y. R x y ≡ Less) xs ys
      (All-from_recursion (λ y. R x y ≡ Less) xs rising.0)
      (λ k d low. below x (get_or ys k d) (first_is_there x xs) (Contains-get_or ys k d low))),
  sorted_append R xs ys rising.1 rises (λ y z h g. below y z (Contains-append_right (x ∷ []) xs y h) g),
)

-- the pairs of an entry rise with its documents
pairs_above : (w : List ℕ) (d : ℕ) (ds : List ℕ) → AllByRecursion (λ n. nat_cmp d n ≡ Less) ds →
    AllByRecursion (λ q. pair_cmp (pair_of w d) q ≡ Less) (map (pair_of w) ds)
pairs_above w d [] above = tt
pairs_above w d (n ∷ ds) above = grind (arith, pairs_above w d ds above.1, tied_itself, nat_list_cmp_total)

pairs_rise : (w : List ℕ) (ds : List ℕ) → IsStrictlySortedBy nat_cmp ds →
    IsStrictlySortedBy pair_cmp (map (pair_of w) ds)
unfolding IsStrictlySortedBy
pairs_rise w [] rising = tt
pairs_rise w (d ∷ ds) rising = (pairs_above w d ds rising.0, pairs_rise w ds rising.1)

no_pairs_rise : AreRisingPairs []
unfolding IsStrictlySortedBy
no_pairs_rise = tt

-- where the words rise, and the documents of each, so do the pairs
pub pairs_of_entries_rise : (es : List EntryView) → AllPairs WordIsBelow es → All DocumentsRise es →
    AreRisingPairs (pairs_of_index es)
pairs_of_entries_rise [] words documents = no_pairs_rise
pairs_of_entries_rise (e ∷ es) words documents =
    let others : AllPairs WordIsBelow es = (λ i j d low inside. words (suc i) (suc j) d (omega arith)
    (omega arith)) in
    sorted_append pair_cmp (pairs_of_entry e) (pairs_of_index es)
    (pairs_rise e.word e.documents (documents 0 e (omega arith)))
    (pairs_of_entries_rise es others (λ k d low. documents (suc k) d (omega arith)))
    (λ p q h g.
    let m = member_from_any (HasPair q) es (entries_of_pair es q g) in
    let below : WordIsBelow e m.0 = All-contains (λ (f : EntryView). WordIsBelow e f) es m.0
    (λ k d low. words 0 (suc k) d (omega arith) (omega arith)) m.1 in
    let less : slice_cmp nat_cmp p.word q.word ≡ Less =
    subst (λ w. slice_cmp nat_cmp w q.word ≡ Less) (own_from_pair e p h).0
    (subst (λ w. slice_cmp nat_cmp e.word w ≡ Less) m.2.0 below) in
    ap (λ o. ordering_then o (nat_cmp p.document q.document)) less)
