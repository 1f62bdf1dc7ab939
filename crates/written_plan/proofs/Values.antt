-- The starts and prices that the lines of a plan declare are those that they were made from.
use Rattle.std.proofs.Common.{ℕ, List, [], ◌∷◌, ◌++◌, ◌≡◌, ◌≢◌, ◌<◌, ◌∙◌, Option, Some, None, inl, inr}
use Rattle.std.proofs.Common.{false, length, map, refl, sym, ap, subst, arith, get_or, suc, unwrap_or}
use Rattle.std.specs.List.{AllPairs, Contains, position}
use Rattle.std.specs.Option.{option_map}
use Rattle.std.specs.Str.{bytes_eq}
use Rattle.std.proofs.lemmas.List.{append_assoc, get_or_append_left, get_or_at, length-append}
use Rattle.std.proofs.lemmas.List.Elements.{Contains-append_cases, Contains-get_or}
use Rattle.std.proofs.lemmas.List.Sums.{position_or_len_is}
use Rattle.std.proofs.lemmas.Slice.Eq.{bytes_eq-Decides}
use Rattle.text_lines.specs.Texts.{Word, name_of}
use Rattle.plan_text.specs.Value.{beside, number_in}
use borrow.Author.Tests.{le-ltb}
use Rattle.written_plan.proofs.Pairs.{AreNew, new-first, new-gone, new-next, new-skip, start_pairs}
use Rattle.written_plan.proofs.Pairs.{started_are_splits}

-- ---- the place of a name

differs : (name other : Word) → (name ≡ other → ⊥) → bytes_eq name other ≡ false
differs name other apart = grind (arith, bytes_eq-Decides)

-- at the first of the names that is the name
pub position_at : (name : Word) (names : List Word) (i : ℕ) → i < length names → get_or names i [] ≡ name
    → ((k : ℕ) → k < i → get_or names k [] ≡ name → ⊥) → position (λ n. bytes_eq name n) names ≡ Some i
position_at name names i inside here before = grind (arith, position_or_len_is, differs, bytes_eq-Decides)

pub position_none : (name : Word) (names : List Word) → (Contains names name → ⊥)
    → position (λ n. bytes_eq name n) names ≡ None
position_none name names none =
    let at = position_or_len_is (λ n. bytes_eq name n) names (length names) [] (omega arith)
    (λ k lt. differs name (get_or names k []) (λ e. none
    (subst (Contains names) (sym e) (Contains-get_or names k [] lt))))
    (λ lt. absurd (omega arith)) in
    rw (at, le-ltb (length names) (length names) (omega arith)) refl

-- of names of which none stands twice, each has the number that it stands at
pub number_of_name : (names : List Word) (w : ℕ) → AllPairs (λ a b. a ≢ b) names → w < length names
    → number_in names (name_of names w) ≡ w
number_of_name names w differ inside = grind (arith, position_at)

-- ---- what stands beside a name

pub beside_none : {X : Type 0} (d : X) (names : List Word) (values : List X) (name : Word)
    → (Contains names name → ⊥)
    → beside d names values name ≡ None
beside_none d names values name none = let at = position_none name names none in rw at refl

pub beside_here : {X : Type 0} (d : X) (before : List Word) (name : Word) (more : List Word) (old : List X)
    (v : X) (rest : List X)
    → length before ≡ length old → (Contains before name → ⊥)
    → beside d (before ++ name ∷ more) (old ++ v ∷ rest) name ≡ Some v
beside_here d before name more old v rest same new =
    let inside : length before < length (before ++ name ∷ more) = omega
    (arith, length-append before (name ∷ more)) in
    let at = position_at name (before ++ name ∷ more) (length before) inside
    (get_or_at before name more [] (length before) refl)
    (λ k lt e. new (subst (Contains before) (sym (get_or_append_left before (name ∷ more) [] k lt) ∙ e)
    (Contains-get_or before k [] lt))) in
    let value : get_or (old ++ v ∷ rest) (length before) d ≡ v = get_or_at old v rest d (length before)
    (sym same) in
    rw (at, value) refl

one_more : {X Y : Type 0} (xs : List X) (ys : List Y) (x : X) (y : Y) → length xs ≡ length ys
    → length (xs ++ x ∷ []) ≡ length (ys ++ y ∷ [])
one_more xs ys x y same = omega (arith, length-append xs (x ∷ []), length-append ys (y ∷ []), same)

-- ---- starts

-- where the name starts, by the names that start and their workers' names
abbrev pub started_on : List Word → List Word → List Word → Word → Option ℕ
started_on workers names on name = option_map (number_in workers) (beside [] names on name)

abbrev pub started_names : List Word → List Word → List (Option ℕ) → List Word
started_names workers xs os = map (λ p. p.0) (start_pairs workers xs os)

abbrev pub start_workers : List Word → List Word → List (Option ℕ) → List Word
start_workers workers xs os = map (λ p. p.1) (start_pairs workers xs os)

pub starts_read : (workers xs : List Word) (os : List (Option ℕ)) (before old : List Word)
    → AllPairs (λ a b. a ≢ b) workers
    → length before ≡ length old → length os ≡ length xs → AreNew before xs
    → ((s w : ℕ) → get_or os s None ≡ Some w → w < length workers)
    → map (started_on workers (before ++ started_names workers xs os) (old ++ start_workers workers xs os))
    xs ≡
    os
starts_read workers [] [] before old differ same count new of_workers = refl
starts_read workers (x ∷ xs) (None ∷ os) before old differ same count new of_workers =
    let names = before ++ started_names workers xs os in
    let on = old ++ start_workers workers xs os in
    let none : Contains names x
    → ⊥ = λ h. elim (Contains-append_cases before (started_names workers xs os) x h) [
      | inl earlier ↦ new-first before x xs new earlier
      | inr later ↦ new-gone before x xs new (started_are_splits workers xs os x later)
    ] in
    let first : started_on workers names on x ≡ None = ap (option_map (number_in workers))
    (beside_none [] names on x none) in
    let rest : map (started_on workers names on) xs ≡ os =
    starts_read workers xs os before old differ same (omega arith) (new-skip before x xs new)
    (λ s. of_workers (suc s)) in
    λ i. first i ∷ rest i
starts_read workers (x ∷ xs) (Some w ∷ os) before old differ same count new of_workers =
    let names = started_names workers xs os in
    let on = start_workers workers xs os in
    let y = name_of workers w in
    let first : started_on workers (before ++ x ∷ names) (old ++ y ∷ on) x ≡ Some w =
    ap (option_map (number_in workers)) (beside_here [] before x names old y on same
    (new-first before x xs new))
    ∙ ap Some (number_of_name workers w differ (of_workers 0 w refl)) in
    let rest : map (started_on workers (before ++ x ∷ [] ++ names) (old ++ y ∷ [] ++ on)) xs ≡ os =
    starts_read workers xs os (before ++ x ∷ []) (old ++ y ∷ []) differ (one_more before old x y same)
    (omega arith)
    (new-next before x xs new) (λ s. of_workers (suc s)) in
    let moved : map (started_on workers (before ++ x ∷ names) (old ++ y ∷ on)) xs ≡ os =
    (λ i. map (started_on workers (sym (append_assoc before (x ∷ []) names) i)
    (sym (append_assoc old (y ∷ []) on) i)) xs) ∙ rest in
    λ i. first i ∷ moved i
starts_read workers xs os before old differ same count new of_workers = absurd (omega arith)

-- ---- prices

-- the price of the name, by the names that have one and the amounts
abbrev pub priced_at : List Word → List ℕ → Word → ℕ
priced_at names amounts name = unwrap_or (beside 0 names amounts name) 0

pub prices_read : (xs : List Word) (vs : List ℕ) (before more : List Word) (old rest : List ℕ)
    → length before ≡ length old
    → length vs ≡ length xs → AreNew before xs
    → map (priced_at (before ++ (xs ++ more)) (old ++ (vs ++ rest))) xs ≡ vs
prices_read [] [] before more old rest same count new = refl
prices_read (x ∷ xs) (v ∷ vs) before more old rest same count new =
    let names = xs ++ more in
    let amounts = vs ++ rest in
    let first : priced_at (before ++ x ∷ names) (old ++ v ∷ amounts) x ≡ v =
    ap (λ o. unwrap_or o 0) (beside_here 0 before x names old v amounts same (new-first before x xs new)) in
    let later : map (priced_at (before ++ x ∷ [] ++ names) (old ++ v ∷ [] ++ amounts)) xs ≡ vs =
    prices_read xs vs (before ++ x ∷ []) more (old ++ v ∷ []) rest (one_more before old x v same)
    (omega arith)
    (new-next before x xs new) in
    let moved : map (priced_at (before ++ x ∷ names) (old ++ v ∷ amounts)) xs ≡ vs =
    (λ i. map (priced_at (sym (append_assoc before (x ∷ []) names) i)
    (sym (append_assoc old (v ∷ []) amounts) i)) xs) ∙ later in
    λ i. first i ∷ moved i
prices_read xs vs before more old rest same count new = absurd (omega arith)
