-- The starts and prices of a plan as pairs, in the order of their lines.
use Rattle.std.proofs.Common.{zip, ℕ, List, [], ◌∷◌, ◌++◌, ◌≡◌, ◌≢◌, ◌+◌, ◌<◌, ◌∙◌, Option, Some, None, inl}
use Rattle.std.proofs.Common.{inr, codes, length, map, refl, sym, ap, subst, arith, get_or, suc, zero}
use Rattle.std.specs.Fmt.{decimal}
use Rattle.std.specs.List.{AllPairs, Contains, flat_map, range_with_len}
use Rattle.std.proofs.lemmas.List.{append_assoc}
use Rattle.std.proofs.lemmas.List.Elements.{Contains-push_cases}
use Rattle.text_lines.specs.Texts.{Line, Word, name_of}
use Rattle.line_shapes.specs.Lines.{Statement}
use Rattle.line_shapes.specs.declared.keyword.Keyword.TheVariants.{Start, Price}
use Rattle.plan_text.specs.Report.{price_line, price_lines_of, start_line, start_lines}
use Rattle.written_plan.proofs.Lines.{joined, spaced}

-- ---- names that are new

-- none of the names stands twice, and none is taken
pub record AreNew (taken names : List Word) : Type 0 where
  pub differ : AllPairs (λ a b. a ≢ b) names
  pub apart : (name : Word) → Contains taken name → Contains names name → ⊥

contains_first : (x : Word) (xs : List Word) → Contains (x ∷ xs) x
contains_first x xs = (0, omega arith, refl)

pub contains_more : (x : Word) (xs : List Word) (y : Word) → Contains xs y → Contains (x ∷ xs) y
contains_more x xs y h = let lt : h.0 < length xs = h.1 in (suc h.0, omega arith, h.2)

pub new-first : (taken : List Word) (x : Word) (xs : List Word) → AreNew taken (x ∷ xs) → Contains taken x → ⊥
new-first taken x xs new old = new.apart x old (contains_first x xs)

pub new-gone : (taken : List Word) (x : Word) (xs : List Word) → AreNew taken (x ∷ xs) → Contains xs x → ⊥
new-gone taken x xs new h =
    let lt : h.0 < length xs = h.1 in
    new.differ 0 (suc h.0) x (omega arith) (omega arith) (sym h.2)

differ-rest : (x : Word) (xs : List Word) → AllPairs (λ a b. a ≢ b) (x ∷ xs) → AllPairs (λ a b. a ≢ b) xs
differ-rest x xs h i j d lt in_range = h (suc i) (suc j) d (omega arith) (omega arith)

pub new-skip : (taken : List Word) (x : Word) (xs : List Word) → AreNew taken (x ∷ xs) → AreNew taken xs
new-skip taken x xs new = record {
  differ = differ-rest x xs new.differ;
  apart = λ name old h. new.apart name old (contains_more x xs name h);
}

pub new-next : (taken : List Word) (x : Word) (xs : List Word) → AreNew taken (x ∷ xs)
    → AreNew (taken ++ x ∷ []) xs
new-next taken x xs new = record {
  differ = differ-rest x xs new.differ;
  apart = λ name old h. elim (Contains-push_cases taken x name old) [
    | inl before ↦ new.apart name before (contains_more x xs name h)
    | inr e ↦ new-gone taken x xs new (subst (Contains xs) (sym e) h)
  ];
}

-- where none is taken
pub new-none : (taken names : List Word) → taken ≡ [] → AllPairs (λ a b. a ≢ b) names → AreNew taken names
new-none taken names none differ = grind arith

-- ---- the pairs

-- each split that starts with the worker's name
abbrev pub start_pairs : List Word → List Word → List (Option ℕ) → List (Word × Word)
start_pairs workers (s ∷ ss) (None ∷ os) = start_pairs workers ss os
start_pairs workers (s ∷ ss) (Some w ∷ os) = (s, name_of workers w) ∷ start_pairs workers ss os
start_pairs workers ss os = []

pub started_are_splits : (workers ss : List Word) (os : List (Option ℕ)) (name : Word)
    → Contains (map (λ p. p.0) (start_pairs workers ss os)) name → Contains ss name
started_are_splits workers [] os name h = h
started_are_splits workers (s ∷ ss) [] name h = absurd (let k = h.1 in omega arith)
started_are_splits workers (s ∷ ss) (None ∷ os) name h = contains_more s ss name
    (started_are_splits workers ss os name h)
started_are_splits workers (s ∷ ss) (Some w ∷ os) name (zero, lt, e) = (0, omega arith, e)
started_are_splits workers (s ∷ ss) (Some w ∷ os) name (suc k, lt, e) =
    contains_more s ss name (started_are_splits workers ss os name (k, omega arith, e))

-- ---- the lines and what they say

abbrev pub start_said : Word × Word → Statement
start_said p = record { keyword = Start; words = p.0 ∷ p.1 ∷ [] }

abbrev pub start_text : Word × Word → Line
start_text p = spaced (codes "start" ∷ p.0 ∷ p.1 ∷ [])

abbrev pub price_said : Word × ℕ → Statement
price_said p = record { keyword = Price; words = p.0 ∷ decimal p.1 ∷ [] }

abbrev pub price_text : Word × ℕ → Line
price_text p = spaced (codes "price" ∷ p.0 ∷ decimal p.1 ∷ [])

-- ---- the text of the lines

abbrev flat_pairs : {X Y : Type 0} → (X → Y → List ℕ) → List X → List Y → List ℕ
flat_pairs f (x ∷ xs) (y ∷ ys) = f x y ++ flat_pairs f xs ys
flat_pairs f xs ys = []

flat_map-later : (f : ℕ → List ℕ) (a n : ℕ)
    → flat_map f (range_with_len (a + 1) n) ≡ flat_map (λ i. f (suc i)) (range_with_len a n)
flat_map-later f a zero = refl
flat_map-later f a (suc n) = grind (arith, flat_map-later f (a + 1) n)

by_numbers : {X Y : Type 0} (f : X → Y → List ℕ) (d : X) (e : Y) (xs : List X) (ys : List Y)
    → length ys ≡ length xs
    → flat_map (λ i. f (get_or xs i d) (get_or ys i e)) (range_with_len 0 (length xs)) ≡ flat_pairs f xs ys
by_numbers f d e [] ys same = refl
by_numbers f d e (x ∷ xs) [] same = absurd (omega arith)
by_numbers f d e (x ∷ xs) (y ∷ ys) same =
    ap (λ rest. f x y ++ rest)
    (flat_map-later (λ i. f (get_or (x ∷ xs) i d) (get_or (y ∷ ys) i e)) 0 (length xs)
    ∙ by_numbers f d e xs ys (omega arith))

start_line-text : (s w rest : List ℕ)
    → codes "start " ++ s ++ codes " " ++ w ++ 10 ∷ [] ++ rest
    ≡ spaced (codes "start" ∷ s ∷ w ∷ []) ++ 10 ∷ rest
start_line-text s w rest = simp append_assoc

starts-text : (workers ss : List Word) (os : List (Option ℕ))
    → flat_pairs (start_line workers) ss os ≡ joined (map start_text (start_pairs workers ss os))
starts-text workers (s ∷ ss) (None ∷ os) = starts-text workers ss os
starts-text workers (s ∷ ss) (Some w ∷ os) = grind (arith, starts-text workers ss os, start_line-text)
starts-text workers ss os = refl

pub start_lines-text : (splits workers : List Word) (starts : List (Option ℕ)) → length starts ≡ length splits
    → start_lines splits workers starts ≡ joined (map start_text (start_pairs workers splits starts))
start_lines-text splits workers starts same =
    by_numbers (start_line workers) [] None splits starts same ∙ starts-text workers splits starts

price_line-text : (n a rest : List ℕ)
    → codes "price " ++ n ++ codes " " ++ a ++ 10 ∷ [] ++ rest
    ≡ spaced (codes "price" ∷ n ∷ a ∷ []) ++ 10 ∷ rest
price_line-text n a rest = simp append_assoc

prices-text : (ns : List Word) (amounts : List ℕ)
    → flat_pairs price_line ns amounts ≡ joined (map price_text (zip ns amounts))
prices-text (n ∷ ns) (a ∷ amounts) = grind (arith, prices-text ns amounts, price_line-text)
prices-text ns amounts = refl

pub price_lines-text : (names : List Word) (amounts : List ℕ) → length amounts ≡ length names
    → price_lines_of names amounts ≡ joined (map price_text (zip names amounts))
price_lines-text names amounts same = by_numbers price_line [] 0 names amounts same
    ∙ prices-text names amounts
