-- Lists of which one element or each was changed, and many lists in a row.
use Rattle.std.proofs.Common.{◌≡◌, ◌≢◌, ℕ, zero, suc, ◌<◌, List, [], ◌∷◌, ◌++◌, length, map, Bool}
use Rattle.std.proofs.Common.{true, false, Some, refl, sym, ap, ◌∙◌, arith, inl, inr, All, AllPairs}
use Rattle.std.proofs.Common.{Contains}
use Rattle.std.specs.Prelude.{flat_map, filter, find, slice_get, slice_index_or, is_some}
use Rattle.std.specs.List.{list_any, position_or_len}
use Rattle.std.proofs.lemmas.Bool.{true≢false, false≢true, cases_Bool, cases_eq, cases_lt}
use Rattle.std.proofs.lemmas.List.{get_or_past}
use Rattle.std.proofs.lemmas.List.Elements.{All-nil, All-cons, All-append, All-from_get_or, filter-append}
use Rattle.std.proofs.lemmas.List.Folds.{find_at, list_any_at, list_any_none}
use Rattle.std.proofs.lemmas.List.Sums.{fails_before_first, passes_at_first, position_or_len_is}
use Rattle.std.proofs.lemmas.List.Kept.{AllPairs-cons}
use Rattle.std.proofs.lemmas.Option.{slice_get_within, get_or_from_slice_get}
use Rattle.node_ids.specs.Updates.{updated}

-- the element at a place of a list that was changed throughout
pub at-map : {X Y : Type 0} (f : X → Y) (xs : List X) (k : ℕ) (d : X) →
    slice_index_or (map f xs) k (f d) ≡ f (slice_index_or xs k d)
at-map f [] k d = refl
at-map f (x ∷ xs) zero d = refl
at-map f (x ∷ xs) (suc k) d = at-map f xs k d

-- the element at another place than the one that was changed
pub at-updated_other : {X : Type 0} (change : X → X) (xs : List X) (n k : ℕ) (d : X) → k ≢ n →
    slice_index_or (updated change xs n) k d ≡ slice_index_or xs k d
at-updated_other change [] n k d other = refl
at-updated_other change (x ∷ xs) zero zero d other = absurd (other refl)
at-updated_other change (x ∷ xs) zero (suc k) d other = refl
at-updated_other change (x ∷ xs) (suc n) zero d other = refl
at-updated_other change (x ∷ xs) (suc n) (suc k) d other = at-updated_other change xs n k d
    (λ e. other (ap suc e))

-- the element that was changed
pub at-updated_same : {X : Type 0} (change : X → X) (xs : List X) (n : ℕ) (d : X) → n < length xs →
    slice_index_or (updated change xs n) n d ≡ change (slice_index_or xs n d)
at-updated_same change [] n d inside = absurd (omega (arith, inside))
at-updated_same change (x ∷ xs) zero d inside = refl
at-updated_same change (x ∷ xs) (suc n) d inside = at-updated_same change xs n d (omega (arith, inside))

-- past the end too, where the change keeps what stands there
pub at-updated_kept : {X : Type 0} (change : X → X) (xs : List X) (n : ℕ) (d : X) → d ≡ change d →
    slice_index_or (updated change xs n) n d ≡ change (slice_index_or xs n d)
at-updated_kept change [] n d kept = kept
at-updated_kept change (x ∷ xs) zero d kept = refl
at-updated_kept change (x ∷ xs) (suc n) d kept = at-updated_kept change xs n d kept

-- what a change keeps of each element
pub same-updated : {X Y : Type 0} (f : X → Y) (change : X → X) (xs : List X) (n k : ℕ) (d : X) →
    ((x : X) → f (change x) ≡ f x) → f (slice_index_or (updated change xs n) k d) ≡ f (slice_index_or xs k d)
same-updated f change [] n k d same = refl
same-updated f change (x ∷ xs) zero zero d same = same x
same-updated f change (x ∷ xs) zero (suc k) d same = refl
same-updated f change (x ∷ xs) (suc n) zero d same = refl
same-updated f change (x ∷ xs) (suc n) (suc k) d same = same-updated f change xs n k d same

pub map-updated_same : {X Y : Type 0} (f : X → Y) (change : X → X) (xs : List X) (n : ℕ) →
    ((x : X) → f (change x) ≡ f x) → map f (updated change xs n) ≡ map f xs
map-updated_same f change [] n same = refl
map-updated_same f change (x ∷ xs) zero same = ap (λ y. y ∷ map f xs) (same x)
map-updated_same f change (x ∷ xs) (suc n) same = ap (λ ys. f x ∷ ys) (map-updated_same f change xs n same)

-- two changes that agree on the element at a place
pub updated-agree : {X : Type 0} (f g : X → X) (xs : List X) (n : ℕ) (d : X) →
    f (slice_index_or xs n d) ≡ g (slice_index_or xs n d) → updated f xs n ≡ updated g xs n
updated-agree f g [] n d same = refl
updated-agree f g (x ∷ xs) zero d same = ap (λ y. y ∷ xs) same
updated-agree f g (x ∷ xs) (suc n) d same = ap (λ ys. x ∷ ys) (updated-agree f g xs n d same)

-- a change keeps what holds of all elements, where it makes it hold of the one that it changes
pub All-updated : {X : Type 0} (P : X → Type 0) (change : X → X) (xs : List X) (n : ℕ) (d : X) →
    All P xs → (P (slice_index_or xs n d) → P (change (slice_index_or xs n d))) → All P (updated change xs n)
All-updated P change [] n d all made = All-nil P
All-updated P change (x ∷ xs) zero d all made =
    All-cons P (change x) xs (made (all 0 x (omega arith))) (λ k e l. all (suc k) e (omega (arith, l)))
All-updated P change (x ∷ xs) (suc n) d all made =
    All-cons P x (updated change xs n) (all 0 x (omega arith))
    (All-updated P change xs n d (λ k e l. all (suc k) e (omega (arith, l))) made)

-- a change that changes no element
pub map-kept : {X : Type 0} (change : X → X) (xs : List X) (d : X) →
    ((k : ℕ) → change (slice_index_or xs k d) ≡ slice_index_or xs k d) → map change xs ≡ xs
map-kept change [] d kept = refl
map-kept change (x ∷ xs) d kept = rw (kept 0) (ap (λ ys. x ∷ ys) (map-kept change xs d (λ k. kept (suc k))))

-- a change that changes one element alone is a change of this element
pub map-updated : {X : Type 0} (change : X → X) (xs : List X) (n : ℕ) (d : X) →
    ((k : ℕ) → k ≢ n → change (slice_index_or xs k d) ≡ slice_index_or xs k d) →
    map change xs ≡ updated change xs n
map-updated change [] n d others = refl
map-updated change (x ∷ xs) zero d others =
    ap (λ ys. change x ∷ ys) (map-kept change xs d (λ k. others (suc k) (λ e. absurd (omega (arith, e)))))
map-updated change (x ∷ xs) (suc n) d others =
    rw (others 0 (λ e. absurd (omega (arith, e))))
    (ap (λ ys. x ∷ ys)
    (map-updated change xs n d (λ k apart. others (suc k) (λ e. apart (omega (arith, e))))))

-- what stands in a list, stands there when more have come, and the first that came stands after the others
pub slice_get-append : {X : Type 0} (xs ys : List X) (k : ℕ) (x : X) → slice_get xs k ≡ Some x →
    slice_get (xs ++ ys) k ≡ Some x
slice_get-append [] ys k x found = absurd (false≢true (ap is_some found))
slice_get-append (y ∷ xs) ys zero x found = found
slice_get-append (y ∷ xs) ys (suc k) x found = slice_get-append xs ys k x found

pub slice_get-push : {X : Type 0} (xs : List X) (x : X) → slice_get (xs ++ x ∷ []) (length xs) ≡ Some x
slice_get-push [] x = refl
slice_get-push (y ∷ xs) x = slice_get-push xs x

-- what holds of two lists in a row, holds of each
pub All-left : {X : Type 0} (P : X → Type 0) (xs ys : List X) → All P (xs ++ ys) → All P xs
All-left P [] ys all = All-nil P
All-left P (x ∷ xs) ys all =
    All-cons P x xs (all 0 x (omega arith)) (All-left P xs ys (λ k d l. all (suc k) d (omega (arith, l))))

pub All-right : {X : Type 0} (P : X → Type 0) (xs ys : List X) → All P (xs ++ ys) → All P ys
All-right P [] ys all = all
All-right P (x ∷ xs) ys all = All-right P xs ys (λ k d l. all (suc k) d (omega (arith, l)))

-- what holds of the elements of each list, holds of those of all lists in a row
pub All-flat_map : {X Y : Type 0} (P : Y → Type 0) (f : X → List Y) (xs : List X) (d : X) →
    ((k : ℕ) → k < length xs → All P (f (slice_index_or xs k d))) → All P (flat_map f xs)
All-flat_map P f [] d each = All-nil P
All-flat_map P f (x ∷ xs) d each =
    All-append P (f x) (flat_map f xs) (each 0 (omega arith))
    (All-flat_map P f xs d (λ k l. each (suc k) (omega (arith, l))))

pub All-of_flat_map : {X Y : Type 0} (P : Y → Type 0) (f : X → List Y) (xs : List X) (k : ℕ) (d : X) →
    k < length xs →
    All P (flat_map f xs) → All P (f (slice_index_or xs k d))
All-of_flat_map P f [] k d inside all = absurd (omega (arith, inside))
All-of_flat_map P f (x ∷ xs) zero d inside all = All-left P (f x) (flat_map f xs) all
All-of_flat_map P f (x ∷ xs) (suc k) d inside all =
    All-of_flat_map P f xs k d (omega (arith, inside)) (All-right P (f x) (flat_map f xs) all)

-- and the same where each list was changed
pub All-changed : {X Y : Type 0} (P : Y → Type 0) (f : X → List Y) (change : X → X) (xs : List X) →
    ((x : X) → All P (f x) → All P (f (change x))) → All P (flat_map f xs) →
    All P (flat_map f (map change xs))
All-changed P f change [] each all = All-nil P
All-changed P f change (x ∷ xs) each all =
    All-append P (f (change x)) (flat_map f (map change xs)) (each x (All-left P (f x) (flat_map f xs) all))
    (All-changed P f change xs each (All-right P (f x) (flat_map f xs) all))

-- and where one of them was
pub All-one_changed : {X Y : Type 0} (P : Y → Type 0) (f : X → List Y) (change : X → X) (xs : List X) (n : ℕ)
    (d : X) →
    (All P (f (slice_index_or xs n d)) → All P (f (change (slice_index_or xs n d)))) →
    All P (flat_map f xs) → All P (flat_map f (updated change xs n))
All-one_changed P f change [] n d each all = All-nil P
All-one_changed P f change (x ∷ xs) zero d each all = search (arith, All-append, All-left, All-right)
All-one_changed P f change (x ∷ xs) (suc n) d each all =
    All-append P (f x) (flat_map f (updated change xs n)) (All-left P (f x) (flat_map f xs) all)
    (All-one_changed P f change xs n d each (All-right P (f x) (flat_map f xs) all))

-- pairs within either list and between the two are the pairs of both in a row
pub AllPairs-append : {X : Type 0} (R : X → X → Type 0) (xs ys : List X) →
    AllPairs R xs → AllPairs R ys → All (λ x. All (R x) ys) xs → AllPairs R (xs ++ ys)
AllPairs-append R [] ys first second between = second
AllPairs-append R (x ∷ xs) ys first second between =
    AllPairs-cons R x (xs ++ ys)
    (All-append (R x) xs ys (λ k d l. first 0 (suc k) d (omega arith) (omega (arith, l)))
    (between 0 x (omega arith)))
    (AllPairs-append R xs ys
    (λ i j d below l. first (suc i) (suc j) d (omega (arith, below)) (omega (arith, l))) second
    (λ k d l. between (suc k) d (omega (arith, l))))

-- where elements of two places are always in relation, all pairs are that are so at each place
pub AllPairs-flat_map : {X Y : Type 0} (R : Y → Y → Type 0) (Told : ℕ → Y → Type 0) (f : X →
    List Y) (xs : List X) (d : X) →
    ((p q : ℕ) (a b : Y) → p ≢ q → Told p a → Told q b → R a b) →
    ((k : ℕ) → k < length xs → All (Told k) (f (slice_index_or xs k d))) →
    ((k : ℕ) → k < length xs → AllPairs R (f (slice_index_or xs k d))) → AllPairs R (flat_map f xs)
AllPairs-flat_map R Told f [] d apart told inner = λ i j e below l. absurd (omega (arith, l))
AllPairs-flat_map {X} {Y} R Told f (x ∷ xs) d apart told inner =
    AllPairs-append R (f x) (flat_map f xs) (inner 0 (omega arith))
    (AllPairs-flat_map R (λ k. Told (suc k)) f xs d
    (λ p q a b differ. apart (suc p) (suc q) a b (λ e. differ (omega (arith, e))))
    (λ k l. told (suc k) (omega (arith, l)))
    (λ k l. inner (suc k) (omega (arith, l))))
    (λ i e l. All-flat_map (R (slice_index_or (f x) i e)) f xs d
    (λ k m j g n. apart 0 (suc k) (slice_index_or (f x) i e) (slice_index_or (f (slice_index_or xs k d)) j g)
    (λ z. absurd (omega (arith, z)))
    (told 0 (omega arith) i e l) (told (suc k) (omega (arith, m)) j g n)))

-- a filter of each list is one of all lists in a row
pub flat_map-filter : {X Y : Type 0} (f : X → List Y) (change : X → X) (test : Y → Bool) (xs : List X) →
    ((x : X) → f (change x) ≡ filter test (f x)) → flat_map f (map change xs) ≡ filter test (flat_map f xs)
flat_map-filter f change test [] each = refl
flat_map-filter f change test (x ∷ xs) each =
    rw (each x, flat_map-filter f change test xs each) (sym (filter-append test (f x) (flat_map f xs)))

-- a filter that lets none pass
pub filter_none : {X : Type 0} (test : X → Bool) (xs : List X) → All (λ x. test x ≡ false) xs →
    filter test xs ≡ []
filter_none test [] all = refl
filter_none test (x ∷ xs) all =
    rw (all 0 x (omega arith)) (filter_none test xs (λ k d l. all (suc k) d (omega (arith, l))))

-- what was found stands in the list, and something is found where a test passes
pub find-contains : {X : Type 0} (test : X → Bool) (xs : List X) (x : X) → find test xs ≡ Some x →
    Contains xs x
find-contains test xs x found =
    let at = sym (find_at test xs) ∙ found in
    (position_or_len test xs, slice_get_within xs _ x at, get_or_from_slice_get xs _ x x at)

-- where some element passes, the first that passes is there, and does
pub any_inside : {X : Type 0} (test : X → Bool) (xs : List X) → list_any test xs ≡ true →
    position_or_len test xs < length xs
any_inside test xs any = grind (arith, cases_lt, true≢false, list_any_none, fails_before_first)

pub any_found : {X : Type 0} (test : X → Bool) (xs : List X) (d : X) → list_any test xs ≡ true →
    test (slice_index_or xs (position_or_len test xs) d) ≡ true
any_found test xs d any = passes_at_first test xs d (any_inside test xs any)

-- what passes a test that nothing past the end does, is inside
pub inside_of : {X : Type 0} (test : X → Bool) (xs : List X) (k : ℕ) (d : X) → test d ≡ false →
    test (slice_index_or xs k d) ≡ true → k < length xs
inside_of test xs k d past here = grind (arith, cases_lt, false≢true, get_or_past)

-- where the element at one place alone may pass, it says where the first is that does, and whether one does
pub position_alone : {X : Type 0} (test : X → Bool) (xs : List X) (n : ℕ) (d : X) → n < length xs →
    ((k : ℕ) → k ≢ n → test (slice_index_or xs k d) ≡ false) → test (slice_index_or xs n d) ≡ true →
    position_or_len test xs ≡ n
position_alone test xs n d inside alone here = grind (arith, position_or_len_is)

pub none_pass : {X : Type 0} (test : X → Bool) (xs : List X) (d : X) →
    ((k : ℕ) → test (slice_index_or xs k d) ≡ false) → list_any test xs ≡ false
none_pass test xs d none =
    list_any_none test xs (All-from_get_or (λ x. test x ≡ false) xs d (λ k l. none k))

pub any_alone : {X : Type 0} (test : X → Bool) (xs : List X) (n : ℕ) (d : X) → test d ≡ false →
    ((k : ℕ) → k ≢ n → test (slice_index_or xs k d) ≡ false) →
    list_any test xs ≡ test (slice_index_or xs n d)
any_alone test xs n d past alone = elim (cases_Bool (test (slice_index_or xs n d))) [
  | inl here ↦ list_any_at test xs n d (inside_of test xs n d past here) here ∙ sym here
  | inr off ↦
      none_pass test xs d (λ k. elim (cases_eq k n) [
        | inl same ↦ rw same off
        | inr other ↦ alone k other
      ]) ∙ sym off
]
