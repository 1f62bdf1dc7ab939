-- The names of a keyword's rows, the keys that they have, and the numbers that they stand for.
use Rattle.std.proofs.Common.{ℕ, List, [], ◌≡◌, ◌≢◌, ◌<◌, ◌∙◌, Bool, true, false, ap}
use Rattle.std.proofs.Common.{arith, get_or, length, refl, subst, sym, take, Option, Some, None}
use Rattle.std.proofs.Common.{◌∷◌, ◌++◌, map, suc, unwrap_or}
use Rattle.std.specs.Prelude.{◌↔◌, IsTrue, MatchOption}
use Rattle.std.specs.Bool.{Decides}
use Rattle.std.specs.List.{All, AllPairs, Contains, flat_map, position}
use Rattle.std.specs.Str.{bytes_eq}
use Rattle.std.proofs.lemmas.List.{get_or-map, get_or-take, length-map, length-take, map-append}
use Rattle.std.proofs.lemmas.Simd.{map-map}
use Rattle.std.proofs.lemmas.List.Elements.{Contains-get_or, filter_passes}
use Rattle.std.proofs.lemmas.List.Kept.{AllPairs-filter}
use Rattle.std.proofs.lemmas.Slice.Eq.{bytes_eq-Decides}
use Rattle.node_ids.proofs.Positions.{position_found, position_none}
use Rattle.text_lines.specs.Texts.{Word}
use Rattle.line_shapes.specs.Lines.{Statement, tail_words}
use Rattle.line_shapes.specs.declared.keyword.Keyword.{Keyword}
use Rattle.line_shapes.proofs.Mapped.{AllPairs-map, AllPairs-unmap}
use Rattle.line_rules.specs.Entering.{Key, entering_of, key_of}
use Rattle.line_shapes.specs.declared.keyword.Keyword.TheVariants.{Split, Worker}
use Rattle.line_rules.specs.Holders.{AreHolders}
use Rattle.line_rules.specs.Rows.{name_in}
use Rattle.line_rules.proofs.Barred.{has_name}
use Rattle.line_rules.specs.Known.{HasNumber, HasRow, is_of, keys_of, nth_row, rows_of}
use Rattle.line_rules.specs.declared.entering.Entering.TheVariants.{Word as ByWord}
use Rattle.line_rules.proofs.OfKeyword.{contains_map, has_row_of, in_rows_of, keyword_of}
use Rattle.plan_text.specs.Names.{names_of, nth_word}
use Rattle.plan_text.specs.Value.{holders_of, number_in, stands_in}
use Rattle.plan_text.proofs.Numbers.{stands_by}

abbrev no_word : Keyword → Statement
no_word k = record { keyword = k; words = [] }

-- ---- keys

pub key_by_word : (k : Keyword) → entering_of k ≡ ByWord → (s : Statement) → s.keyword ≡ k
    → key_of s ≡ (k, nth_word 0 s, [])
key_by_word k by s same = grind arith

-- a name of a keyword is the key of a row
pub named_row : (k : Keyword) → entering_of k ≡ ByWord → (rows : List Statement) (n : Word)
    → Contains (names_of k rows) n → HasRow rows k n
named_row k by rows n (i, lt, is) =
    let inside : i < length (rows_of k rows) = rw length-map at lt in
    let s : Statement = get_or (rows_of k rows) i (no_word k) in
    let row = in_rows_of k rows s (Contains-get_or (rows_of k rows) i (no_word k) inside) in
    let name : nth_word 0 s ≡ n =
    sym (get_or-map (nth_word 0) (rows_of k rows) i (no_word k) n inside) ∙ is in
    subst (Contains (keys_of rows)) (key_by_word k by s row.1 ∙ ap (λ w. (k, w, [])) name)
    (contains_map key_of rows s row.0)

-- and the other way round
pub row_named : (k : Keyword) → entering_of k ≡ ByWord → (rows : List Statement) (n : Word)
    → HasRow rows k n → Contains (names_of k rows) n
row_named k by rows n (i, lt, is) =
    let inside : i < length rows = rw length-map at lt in
    let s : Statement = get_or rows i (no_word k) in
    let key : key_of s ≡ (k, n, []) = sym (get_or-map key_of rows i (no_word k) (k, n, []) inside) ∙ is in
    let same : s.keyword ≡ k = ap (λ (q : Key). q.0) key in
    let name : nth_word 0 s ≡ n = ap (λ (q : Key). q.1) (sym (key_by_word k by s same) ∙ key) in
    subst (Contains (names_of k rows)) name (contains_map (nth_word 0) (rows_of k rows) s
    (has_row_of k rows s (Contains-get_or rows i (no_word k) inside) same))

-- no two rows of a keyword that is entered by its name have one name
pub names_differ : (k : Keyword) → entering_of k ≡ ByWord → (rows : List Statement)
    → AllPairs (λ a b. a ≢ b) (keys_of rows) → AllPairs (λ a b. a ≢ b) (names_of k rows)
names_differ k by rows differ =
    let Apart : Statement → Statement → Type 0 = λ a b. key_of a ≢ key_of b in
    let apart = AllPairs-filter Apart (is_of k) rows (AllPairs-unmap (λ a b. a ≢ b) key_of rows differ) in
    AllPairs-map (λ (a b : Word). a ≢ b) (nth_word 0) (rows_of k rows)
    (λ i j d lt inside same.
    let a : Statement = get_or (rows_of k rows) i d in
    let b : Statement = get_or (rows_of k rows) j d in
    apart i j d lt inside
    (key_by_word k by a (keyword_of k a (filter_passes (is_of k) rows i d (omega arith)))
    ∙ ap (λ w. (k, w, [])) same
    ∙ sym (key_by_word k by b (keyword_of k b (filter_passes (is_of k) rows j d inside)))))

-- ---- numbers

-- the name of the row with a number
pub name_at : (k : Keyword) (rows : List Statement) (i : ℕ) (d : Word) → i < length (rows_of k rows)
    → get_or (names_of k rows) i d ≡ nth_word 0 (nth_row k i rows)
name_at k rows i d lt = get_or-map (nth_word 0) (rows_of k rows) i (no_word k) d lt

-- it is none of the names before
pub name_new : (k : Keyword) → entering_of k ≡ ByWord → (rows : List Statement)
    → AllPairs (λ a b. a ≢ b) (keys_of rows) → (i : ℕ) → i < length (rows_of k rows)
    → Contains (take i (names_of k rows)) (nth_word 0 (nth_row k i rows)) → ⊥
name_new k by rows differ i lt (m, before, is) =
    let names = names_of k rows in
    let name = nth_word 0 (nth_row k i rows) in
    let inside : i < length names = rw length-map lt in
    let earlier : m < i = omega (arith, before, length-take i names) in
    names_differ k by rows differ m i name earlier inside
    (sym (get_or-take i names m name earlier) ∙ is ∙ sym (name_at k rows i name lt))

apart : (a b : Word) → (a ≡ b → ⊥) → bytes_eq a b ≡ false
apart a b other = by (bytes_eq a b) (bytes_eq-Decides a b)
  where
    by : (t : Bool) → Decides t (a ≡ b) → t ≡ false
    by true same = absurd (other (same.0 refl))
    by false same = refl

-- the row that a name was found to be entered by
pub number_found : (k : Keyword) → entering_of k ≡ ByWord → (rows : List Statement)
    → AllPairs (λ a b. a ≢ b) (keys_of rows) → (name : Word) (o : Option ℕ)
    → MatchOption o (Contains (keys_of rows) (k, name, []) → ⊥) (HasNumber rows (k, name, []))
    → o ≡ position (λ n. bytes_eq name n) (names_of k rows)
number_found k by rows differ name None absent =
    let names = names_of k rows in
    sym (position_none (bytes_eq name) names [] (λ i lt. apart name (get_or names i [])
    (λ e. absent (named_row k by rows name
    (subst (Contains names) (sym e) (Contains-get_or names i [] lt))))))
number_found k by rows differ name (Some n) has =
    let names = names_of k rows in
    let s = nth_row k n rows in
    let inside : n < length names = let lt : n < length (rows_of k rows) = has.inside in rw length-map lt in
    let own : s.keyword ≡ k = keyword_of k s (filter_passes (is_of k) rows n (no_word k) has.inside) in
    let word : nth_word 0 s ≡ name = ap (λ (q : Key). q.1) (sym (key_by_word k by s own) ∙ has.is) in
    let here : get_or names n [] ≡ name = name_at k rows n [] has.inside ∙ word in
    sym (position_found (bytes_eq name) names n [] inside
    (λ j before. apart name (get_or names j [])
    (λ e. names_differ k by rows differ j n [] before inside (sym e ∙ sym here)))
    ((bytes_eq-Decides name (get_or names n [])).1 (sym here)))

-- whether a row is about a name
pub stands_named : (k : Keyword) → entering_of k ≡ ByWord → (rows : List Statement) (name : Word) (b : Bool)
    → (IsTrue b ↔ Contains (keys_of rows) (k, name, [])) → b ≡ stands_in (names_of k rows) name
stands_named k by rows name b has =
    stands_by b (names_of k rows) name (
      λ t. row_named k by rows name (has.0 t),
      λ h. has.1 (named_row k by rows name h),
    )

-- ---- the holders of splits

-- a worker's name gives its number back
numbers_back : (rows : List Statement) → AllPairs (λ a b. a ≢ b) (keys_of rows) → (ns : List ℕ)
    → All (λ n. n < length (rows_of Worker rows)) ns
    → ns ≡ map (λ n. number_in (names_of Worker rows) (name_in Worker rows n)) ns
numbers_back rows differ [] within = refl
numbers_back rows differ (n ∷ ns) within = λ i.
    ap (λ o. unwrap_or o 0) (number_found Worker refl rows differ (name_in Worker rows n) (Some n)
    (has_name Worker refl rows n (within 0 0 (omega arith)))) i
    ∷ numbers_back rows differ ns (λ k d lt. within (suc k) d (omega arith)) i

parts_mapped : (f : Word → ℕ) (splits : List Statement)
    → map f (flat_map tail_words splits) ≡ flat_map (λ s. map f (tail_words s)) splits
parts_mapped f [] = refl
parts_mapped f (s ∷ ss) =
    map-append f (tail_words s) (flat_map tail_words ss)
    ∙ ap (λ ns. map f (tail_words s) ++ ns) (parts_mapped f ss)

-- the reader found, for each holder's name, the number of the worker of that name
pub holders_numbered : (rows : List Statement) → AllPairs (λ a b. a ≢ b) (keys_of rows) → (ns : List ℕ)
    → AreHolders rows ns → ns ≡ holders_of (names_of Worker rows) (rows_of Split rows)
holders_numbered rows differ ns are =
    let number = number_in (names_of Worker rows) in
    numbers_back rows differ ns are.within ∙ sym (map-map number (name_in Worker rows) ns)
    ∙ ap (map number) are.named ∙ parts_mapped number (rows_of Split rows)
