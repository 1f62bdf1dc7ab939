-- Changes made one after another, and all at once.
use Rattle.std.proofs.Common.{◌≡◌, ℕ, zero, suc, ◌<◌, ◌≤◌, List, [], ◌∷◌, length, map, cond, not, Bool, true}
use Rattle.std.proofs.Common.{false, ◌||◌, ◌==◌, get_or, set, Some, None, refl, ap}
use Rattle.std.proofs.Common.{arith}
use Rattle.std.specs.Prelude.{filter, find, slice_index_or}
use Rattle.std.specs.List.{list_any}
use Rattle.std.proofs.lemmas.Bool.{false≢true}
use Rattle.std.proofs.lemmas.List.Sums.{length-filter, count_by-le-length}
use Rattle.node_ids.specs.Updates.{updated}
use Rattle.node_ids.proofs.Updating.{updated_at}

pub filter-both : {X : Type 0} (p q either : X → Bool) → ((x : X) → either x ≡ (p x || q x)) → (xs : List X) →
    filter (λ x. not (q x)) (filter (λ x. not (p x)) xs) ≡ filter (λ x. not (either x)) xs
filter-both p q either same [] = refl
filter-both p q either same (x ∷ xs) = grind (arith, filter-both p q either same xs)

-- a test that nothing passes
pub filter-none : {X : Type 0} (test : X → Bool) → ((x : X) → test x ≡ false) → (xs : List X) →
    filter (λ x. not (test x)) xs ≡ xs
filter-none test none [] = refl
filter-none test none (x ∷ xs) = rw (none x) (ap (λ ys. x ∷ ys) (filter-none test none xs))

-- two changes of each element, one after the other
pub map-both : {X : Type 0} (f g both : X → X) → ((x : X) → g (f x) ≡ both x) → (xs : List X) →
    map g (map f xs) ≡ map both xs
map-both f g both same [] = refl
map-both f g both same (x ∷ xs) = rw (same x, map-both f g both same xs) refl

pub map-nothing : {X : Type 0} (f : X → X) → ((x : X) → f x ≡ x) → (xs : List X) → map f xs ≡ xs
map-nothing f same [] = refl
map-nothing f same (x ∷ xs) = rw (same x) (ap (λ ys. x ∷ ys) (map-nothing f same xs))

-- the first elements changed
abbrev pub front_changed : {X : Type 0} → (X → X) → ℕ → List X → List X
front_changed change zero xs = xs
front_changed change (suc i) [] = []
front_changed change (suc i) (x ∷ xs) = change x ∷ front_changed change i xs

pub length-front_changed : {X : Type 0} (change : X → X) (i : ℕ) (xs : List X) →
    length (front_changed change i xs) ≡ length xs
length-front_changed change zero xs = refl
length-front_changed change (suc i) [] = refl
length-front_changed change (suc i) (x ∷ xs) = ap suc (length-front_changed change i xs)

-- one more, and all
pub front_changed-more : {X : Type 0} (change : X → X) (i : ℕ) (xs : List X) →
    updated change (front_changed change i xs) i ≡ front_changed change (suc i) xs
front_changed-more change zero [] = refl
front_changed-more change zero (x ∷ xs) = refl
front_changed-more change (suc i) [] = refl
front_changed-more change (suc i) (x ∷ xs) = ap (λ ys. change x ∷ ys) (front_changed-more change i xs)

pub front_changed-all : {X : Type 0} (change : X → X) (i : ℕ) (xs : List X) → length xs ≤ i →
    front_changed change i xs ≡ map change xs
front_changed-all change zero [] past = refl
front_changed-all change zero (x ∷ xs) past = absurd (omega (arith, past))
front_changed-all change (suc i) [] past = refl
front_changed-all change (suc i) (x ∷ xs) past =
    ap (λ ys. change x ∷ ys) (front_changed-all change i xs (omega (arith, past)))

-- an element that was read and written back changed, where both places are the same
pub updated_here : {X : Type 0} (change : X → X) (xs : List X) {i n : ℕ} {x y : X} → i ≡ n →
    x ≡ get_or xs i x → y ≡ change x → n < length xs → set xs i y ≡ updated change xs n
updated_here change xs {i = i} {n = n} {x = x} {y = y} at was made known =
    updated_at change xs xs i n x y at refl was made known

-- two changes at one place, and one that changes nothing there
pub updated-both : {X : Type 0} (f g : X → X) → ((x : X) → g (f x) ≡ g x) → (xs : List X) (n : ℕ) →
    updated g (updated f xs n) n ≡ updated g xs n
updated-both f g same [] n = refl
updated-both f g same (x ∷ xs) zero = ap (λ y. y ∷ xs) (same x)
updated-both f g same (x ∷ xs) (suc n) = ap (λ ys. x ∷ ys) (updated-both f g same xs n)

pub updated-nothing : {X : Type 0} (change : X → X) (xs : List X) (n : ℕ) (d : X) →
    change (slice_index_or xs n d) ≡ slice_index_or xs n d → updated change xs n ≡ xs
updated-nothing change [] n d same = refl
updated-nothing change (x ∷ xs) zero d same = ap (λ y. y ∷ xs) same
updated-nothing change (x ∷ xs) (suc n) d same = ap (λ ys. x ∷ ys) (updated-nothing change xs n d same)

find_none_step : {X : Type 0} (test : X → Bool) (b : Bool) (x : X) (xs : List X) → test x ≡ b →
    cond b (Some x) (find test xs) ≡ None → (find test xs ≡ None → filter (λ y. not (test y)) xs ≡ xs) →
    filter (λ y. not (test y)) (x ∷ xs) ≡ x ∷ xs
find_none_step test true x xs here found rest = cc
find_none_step test false x xs here found rest = rw here (ap (λ ys. x ∷ ys) (rest found))

-- nothing is found where nothing passes
pub find-none : {X : Type 0} (test : X → Bool) (xs : List X) → find test xs ≡ None →
    filter (λ x. not (test x)) xs ≡ xs
find-none test [] found = refl
find-none test (x ∷ xs) found = find_none_step test (test x) x xs refl found (find-none test xs)

-- what is found stands there, and passes
pub find-some : (test : ℕ → Bool) (xs : List ℕ) (y : ℕ) → find test xs ≡ Some y →
    (list_any (λ x. x == y) xs ≡ true) × (test y ≡ true)
find-some test [] y found = cc
find-some test (x ∷ xs) y found = grind (arith, find-some test xs y)

length_less : (b any : Bool) (x : ℕ) (xs ys : List ℕ) → length ys ≤ length xs →
    (any ≡ true → length ys < length xs) → (b || any) ≡ true →
    length (cond (not b) (x ∷ ys) ys) < length (x ∷ xs)
length_less true any x xs ys le less has = omega (arith, le)
length_less false any x xs ys le less has = omega (arith, less has)

-- fewer stand there without one that does
pub length-without : (xs : List ℕ) (y : ℕ) → list_any (λ x. x == y) xs ≡ true →
    length (filter (λ x. not (x == y)) xs) < length xs
length-without [] y has = absurd (false≢true has)
length-without (x ∷ xs) y has =
    grind (arith, length-without xs y, length_less, length-filter, count_by-le-length)

-- what passes a test passes it also where it is named
passes_too : (test : ℕ → Bool) (y : ℕ) → test y ≡ true → (x : ℕ) → test x ≡ (x == y || test x)
passes_too test y passes x = grind arith

-- without one that passes, and then without all that do
pub filter-after : (test : ℕ → Bool) (y : ℕ) → test y ≡ true → (xs : List ℕ) →
    filter (λ x. not (test x)) (filter (λ x. not (x == y)) xs) ≡ filter (λ x. not (test x)) xs
filter-after test y passes = filter-both (λ x. x == y) test test (passes_too test y passes)

pub filter-empty : {X : Type 0} (test : X → Bool) (xs : List X) → length xs ≤ 0 → filter test xs ≡ xs
filter-empty test [] none = refl
filter-empty test (x ∷ xs) none = absurd (omega (arith, none))
