-- Texts have one index.
use Rattle.std.proofs.Common.{◌≡◌, ℕ, suc, ◌<◌, List, [], ◌∷◌, ◌++◌, length, map, sym, refl, ap, ◌∙◌}
use Rattle.std.proofs.Common.{⊎_elim, subst, arith}
use Rattle.std.specs.Prelude.{◌↔◌, Contains, All, AllPairs}
use Rattle.std.specs.List.Sorted.{IsStrictlySortedBy}
use Rattle.std.specs.Cmp.{IsTotalOrder}
use Rattle.std.specs.Cmp.Lexicographic.{slice_cmp}
use Rattle.std.specs.Ordering.{nat_cmp, is_lt, ordering_reverse}
use Rattle.std.specs.declared.cmp.Ordering.{Ordering}
use Rattle.std.specs.declared.cmp.Ordering.TheVariants.{Less}
use Rattle.std.proofs.lemmas.Bool.{false≢true}
use Rattle.std.proofs.lemmas.Cmp.{nat_cmp_total, nat_list_cmp_total, on_total, then_total}
use Rattle.std.proofs.lemmas.List.Elements.{All-contains, All-head, All-tail, Contains-append_cases}
use Rattle.std.proofs.lemmas.List.Elements.{Contains-append_right}
use Rattle.std.proofs.lemmas.Map.Keys.{sorted_tail}
use Rattle.std.proofs.lemmas.Map.Views.{All-after_first}
use Rattle.word_map.specs.Texts.{Pair}
use Rattle.word_map.specs.Runs.{pair_cmp}
use Rattle.word_map.specs.Entries.{EntryView, WordIsBelow, pair_of, pairs_of_entry, pairs_of_index}
use Rattle.word_map.proofs.EntryLemmas.{HasPair, entries_of_pair, first_is_there, only_one}
use Rattle.word_map.proofs.PairLemmas.{member_from_any}
use Rattle.shuffle_reduce.specs.Indexed.{HaveOneIndex}

pair_total : IsTotalOrder pair_cmp
pair_total = then_total (on_total (λ p. p.word) nat_list_cmp_total) (on_total (λ p. p.document) nat_cmp_total)

-- ---- rising lists of the same elements are one

module _ {K : Type 0} (R : K → K → Ordering) (total : IsTotalOrder R) where
  never_both : (x y : K) → R x y ≡ Less → R y x ≡ Less → ⊥
  never_both x y h g = false≢true (sym (ap is_lt (total.antisymm y x ∙ ap ordering_reverse h)) ∙ ap is_lt g)

  above : (x : K) (xs : List K) (z : K) → IsStrictlySortedBy R (x ∷ xs) → Contains xs z → R x z ≡ Less
  above x xs z rises there = All-contains (λ q. R x q ≡ Less) xs z (All-after_first R x xs rises) there

  -- what follows the first of the one follows that of the other
  follows : (x y : K) (xs ys : List K) → IsStrictlySortedBy R (x ∷ xs) → x ≡ y →
      ((z : K) → Contains (x ∷ xs) z → Contains (y ∷ ys) z) → (z : K) → Contains xs z → Contains ys z
  follows x y xs ys rises first all z there =
      let less : R x z ≡ Less = above x xs z rises there in
      ⊎_elim
      (λ is. let same : x ≡ z = first ∙ only_one y z is in
      absurd (never_both x x (subst (λ q. R x q ≡ Less) (sym same) less)
      (subst (λ q. R x q ≡ Less) (sym same) less)))
      (λ later. later)
      (Contains-append_cases (y ∷ []) ys z (all z (Contains-append_right (x ∷ []) xs z there)))

  same_first : (x y : K) (xs ys : List K) → IsStrictlySortedBy R (x ∷ xs) → IsStrictlySortedBy R (y ∷ ys) →
      Contains (y ∷ ys) x → Contains (x ∷ xs) y → x ≡ y
  same_first x y xs ys rises rise there back =
      ⊎_elim
      (λ is. sym (only_one y x is))
      (λ later. ⊎_elim
      (λ is. only_one x y is)
      (λ also. absurd (never_both x y (above x xs y rises also) (above y ys x rise later)))
      (Contains-append_cases (x ∷ []) xs y back))
      (Contains-append_cases (y ∷ []) ys x there)

  pub same_elements : (xs ys : List K) → IsStrictlySortedBy R xs → IsStrictlySortedBy R ys →
      ((z : K) → Contains xs z ↔ Contains ys z) → xs ≡ ys
  same_elements [] [] rises rise same = refl
  same_elements [] (y ∷ ys) rises rise same =
      let none = (same y).1 (first_is_there y ys) in absurd (omega (arith, none.1))
  same_elements (x ∷ xs) [] rises rise same =
      let none = (same x).0 (first_is_there x xs) in absurd (omega (arith, none.1))
  same_elements (x ∷ xs) (y ∷ ys) rises rise same =
      let first = same_first x y xs ys rises rise ((same x).0 (first_is_there x xs))
      ((same y).1 (first_is_there y ys)) in
      let rest = same_elements xs ys (sorted_tail R x xs rises) (sorted_tail R y ys rise)
      (λ z. (
        follows x y xs ys rises first (λ q. (same q).0) z,
        follows y x ys xs rise (sym first) (λ q. (same q).1) z,
      )) in
      λ i. first i ∷ rest i

-- ---- entries of the same pairs are one

abbrev first_of : {X : Type 0} → X → List X → X
first_of d [] = d
first_of d (x ∷ xs) = x

abbrev rest_of : {X : Type 0} → List X → List X
rest_of [] = []
rest_of (x ∷ xs) = xs

-- none of the pairs is of the word
abbrev HaveNot : List ℕ → List Pair → Type 0
HaveNot word pairs = (p : Pair) → Contains pairs p → word ≡ p.word → ⊥

absurd_pair : (word : List ℕ) (d : ℕ) (pairs rest : List Pair) → HaveNot word pairs →
    pairs ≡ pair_of word d ∷ rest → ⊥
absurd_pair word d pairs rest none is =
    none (pair_of word d) (subst (λ ps. Contains ps (pair_of word d)) (sym is)
    (first_is_there (pair_of word d) rest)) refl

-- where a word's pairs end, its documents do
same_documents : (word : List ℕ) (ds cs : List ℕ) (ps qs : List Pair) → HaveNot word ps → HaveNot word qs →
    map (pair_of word) ds ++ ps ≡ map (pair_of word) cs ++ qs → (ds ≡ cs) × (ps ≡ qs)
same_documents word [] [] ps qs none nor is = (refl, is)
same_documents word [] (c ∷ cs) ps qs none nor is =
    absurd (absurd_pair word c ps (map (pair_of word) cs ++ qs) none is)
same_documents word (d ∷ ds) [] ps qs none nor is =
    absurd (absurd_pair word d qs (map (pair_of word) ds ++ ps) nor (sym is))
same_documents word (d ∷ ds) (c ∷ cs) ps qs none nor is =
    let first : d ≡ c = ap (λ (pairs : List Pair). (first_of (pair_of word d) pairs).document) is in
    let rest = same_documents word ds cs ps qs none nor (ap rest_of is) in
    ((λ i. first i ∷ rest.0 i), rest.1)

-- the entries that follow have greater words
others : (e : EntryView) (es : List EntryView) → AllPairs WordIsBelow (e ∷ es) →
    HaveNot e.word (pairs_of_index es)
others e es words p there same =
    let m = member_from_any (HasPair p) es (entries_of_pair es p there) in
    let below : WordIsBelow e m.0 = All-contains (λ (f : EntryView). WordIsBelow e f) es m.0
    (λ k d low. words 0 (suc k) d (omega arith) (omega arith)) m.1 in
    let itself : slice_cmp nat_cmp e.word e.word ≡ Less =
    subst (λ w. slice_cmp nat_cmp e.word w ≡ Less) (m.2.0 ∙ sym same) below in
    never_both (slice_cmp nat_cmp) nat_list_cmp_total e.word e.word itself itself

later : (e : EntryView) (es : List EntryView) → AllPairs WordIsBelow (e ∷ es) → AllPairs WordIsBelow es
later e es words = λ i j d low inside. words (suc i) (suc j) d (omega arith) (omega arith)

no_pair : (e : EntryView) (ps : List Pair) → 0 < length e.documents → pairs_of_entry e ++ ps ≡ [] → ⊥
no_pair e ps some is = by e.documents some is
  where
    by : (ds : List ℕ) → 0 < length ds → map (pair_of e.word) ds ++ ps ≡ [] → ⊥
    by [] some is = omega (arith, some)
    by (d ∷ ds) some is = let none : length (map (pair_of e.word) (d ∷ ds) ++ ps) ≡ 0 = ap length is in
        omega (arith, none)

-- the word of the first pair is that of the first entry
same_word : (v w : List ℕ) (ds cs : List ℕ) (ps qs : List Pair) → 0 < length ds → 0 < length cs →
    map (pair_of v) ds ++ ps ≡ map (pair_of w) cs ++ qs → v ≡ w
same_word v w [] cs ps qs some any is = absurd (omega (arith, some))
same_word v w (d ∷ ds) [] ps qs some any is = absurd (omega (arith, any))
same_word v w (d ∷ ds) (c ∷ cs) ps qs some any is =
    ap (λ (pairs : List Pair). (first_of (pair_of v d) pairs).word) is

same_entries : (es fs : List EntryView) → AllPairs WordIsBelow es → AllPairs WordIsBelow fs →
    All (λ e. 0 < length e.documents) es → All (λ e. 0 < length e.documents) fs →
    pairs_of_index es ≡ pairs_of_index fs → es ≡ fs
same_entries [] [] words rise some any is = refl
same_entries [] (f ∷ fs) words rise some any is =
    absurd (no_pair f (pairs_of_index fs) (All-head (λ (e : EntryView). 0 < length e.documents) f fs any)
    (sym is))
same_entries (e ∷ es) [] words rise some any is =
    absurd (no_pair e (pairs_of_index es) (All-head (λ (e : EntryView). 0 < length e.documents) e es some) is)
same_entries (e ∷ es) (f ∷ fs) words rise some any is =
    let HasOne : EntryView → Type 0 = λ e. 0 < length e.documents in
    let word : e.word ≡ f.word = same_word e.word f.word e.documents f.documents (pairs_of_index es)
    (pairs_of_index fs) (All-head HasOne e es some) (All-head HasOne f fs any) is in
    let both = same_documents e.word e.documents f.documents (pairs_of_index es) (pairs_of_index fs)
    (others e es words)
    (subst (λ w. HaveNot w (pairs_of_index fs)) (sym word) (others f fs rise))
    (is ∙ ap (λ w. map (pair_of w) f.documents ++ pairs_of_index fs) (sym word)) in
    let rest = same_entries es fs (later e es words) (later f fs rise) (All-tail HasOne e es some)
    (All-tail HasOne f fs any) both.1 in
    λ i. record { word = word i; documents = both.0 i } ∷ rest i

pub have_one_index : HaveOneIndex
have_one_index texts entries others one other =
    same_entries entries others one.words other.words one.some other.some
    (same_elements pair_cmp pair_total (pairs_of_index entries) (pairs_of_index others) one.rising other.rising
    (λ pair. (
      (λ h. (other.exact pair).1 ((one.exact pair).0 h)),
      (λ h. (one.exact pair).1 ((other.exact pair).0 h)),
    )))
