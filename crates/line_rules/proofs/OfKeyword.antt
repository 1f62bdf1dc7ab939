-- The rows of one keyword among all rows, and the rows that have one key.
use Rattle.std.proofs.Common.{ℕ, List, [], ◌∷◌, ◌++◌, ◌≡◌, ◌<◌, ◌+◌, ◌∙◌, Bool, true, false, zero, suc}
use Rattle.std.proofs.Common.{ap, append-nil, arith, cond, get_or, inl, inr, length, map, refl, subst, sym}
use Rattle.std.proofs.Common.{length-append, true≢false}
use Rattle.std.specs.Prelude.{◌↔◌, ◌⊎◌}
use Rattle.std.specs.List.{All, Contains, filter}
use Rattle.std.proofs.lemmas.Bool.{cases_lt}
use Rattle.std.proofs.lemmas.List.{get_or-map, get_or_append_left, get_or_default, get_or_push, length-map}
use Rattle.std.proofs.lemmas.List.Elements.{All-contains_itself, All-filter, Contains-get_or, filter-append}
use Rattle.std.proofs.lemmas.List.Elements.{filter_passes}
use Rattle.std.proofs.lemmas.Slice.Eq.{bytes_eq-Decides}
use Rattle.line_shapes.specs.Keywords.{spelling_of}
use Rattle.line_shapes.specs.Lines.{Statement}
use Rattle.line_shapes.specs.declared.keyword.Keyword.{Keyword}
use Rattle.line_shapes.proofs.OneStatement.{spelling_of-injective}
use Rattle.line_rules.specs.Entering.{Key, key_of}
use Rattle.line_rules.specs.Known.{HasNumber, is_of, keys_of, nth_row, rows_of}

-- ---- lists

pub contains_map : {X Y : Type 0} (f : X → Y) (xs : List X) (x : X) → Contains xs x →
    Contains (map f xs) (f x)
contains_map f xs x (i, lt, is) = (i, rw length-map lt, get_or-map f xs i x (f x) lt ∙ ap f is)

kept : {X : Type 0} (b : Bool) (y : X) (ys : List X) (x : X) → Contains ys x → Contains (cond b (y ∷ ys) ys) x
kept true y ys x (i, lt, is) = let lt : i < length ys = lt in (suc i, omega arith, is)
kept false y ys x h = h

kept_first : {X : Type 0} (b : Bool) (y : X) (ys : List X) (x : X) → y ≡ x → b ≡ true
    → Contains (cond b (y ∷ ys) ys) x
kept_first true y ys x is pass = (zero, omega arith, is)
kept_first false y ys x is pass = cc

contains_filter : {X : Type 0} (p : X → Bool) (xs : List X) (x : X) → Contains xs x → p x ≡ true
    → Contains (filter p xs) x
contains_filter p [] x (i, lt, is) pass = absurd (omega arith)
contains_filter p (y ∷ ys) x (zero, lt, is) pass = kept_first (p y) y (filter p ys) x is (ap p is ∙ pass)
contains_filter p (y ∷ ys) x (suc i, lt, is) pass =
    kept (p y) y (filter p ys) x (contains_filter p ys x (i, omega arith, is) pass)

pub at_element : {X : Type 0} (P : X → Type 0) (xs : List X) (x : X) → All P xs → Contains xs x → P x
at_element P xs x all (i, lt, is) = subst P is (all i x lt)

-- ---- the rows of a keyword

pub is_of-same : (k : Keyword) (s : Statement) → s.keyword ≡ k → is_of k s ≡ true
is_of-same k s same = (bytes_eq-Decides (spelling_of k) (spelling_of s.keyword)).1 (ap spelling_of (sym same))

pub keyword_of : (k : Keyword) (s : Statement) → is_of k s ≡ true → s.keyword ≡ k
keyword_of k s is =
    sym (spelling_of-injective k s.keyword ((bytes_eq-Decides (spelling_of k) (spelling_of s.keyword)).0 is))

pub is_of-other : (k : Keyword) (s : Statement) → (s.keyword ≡ k → ⊥) → is_of k s ≡ false
is_of-other k s other = grind arith

pub in_rows_of : (k : Keyword) (rows : List Statement) (s : Statement) → Contains (rows_of k rows) s
    → Contains rows s × (s.keyword ≡ k)
in_rows_of k rows s has = (
  at_element (Contains rows) (rows_of k rows) s
      (All-filter (is_of k) (Contains rows) rows (All-contains_itself rows)) has,
  keyword_of k s (at_element (λ t. is_of k t ≡ true) (rows_of k rows) s (filter_passes (is_of k) rows) has),
)

pub has_row_of : (k : Keyword) (rows : List Statement) (s : Statement) → Contains rows s → s.keyword ≡ k
    → Contains (rows_of k rows) s
has_row_of k rows s has same = contains_filter (is_of k) rows s has (is_of-same k s same)

-- with one row more
pub rows_pushed : (k : Keyword) (rows : List Statement) (s : Statement) (b : Bool) → is_of k s ≡ b
    → rows_of k (rows ++ s ∷ []) ≡ rows_of k rows ++ cond b (s ∷ []) []
rows_pushed k rows s b is =
    filter-append (is_of k) rows (s ∷ []) ∙ ap (λ c. rows_of k rows ++ cond c (s ∷ []) []) is

-- ---- the row of a key

abbrev pub no_row : Keyword → Statement
no_row k = record { keyword = k; words = [] }

pub numbered_there : (rows : List Statement) (key : Key) (n : ℕ) → HasNumber rows key n
    → Contains (keys_of rows) key
numbered_there rows key n h =
    let s : Statement = nth_row key.0 n rows in
    let there = in_rows_of key.0 rows s (Contains-get_or (rows_of key.0 rows) n (no_row key.0) h.inside) in
    subst (Contains (keys_of rows)) h.is (contains_map key_of rows s there.0)

pub there_numbered : (rows : List Statement) (key : Key) → Contains (keys_of rows) key
    → (n : ℕ) × HasNumber rows key n
there_numbered rows key (i, lt, is) =
    let k = key.0 in
    let inside : i < length rows = rw length-map at lt in
    let s : Statement = get_or rows i (no_row k) in
    let own : key_of s ≡ key = sym (get_or-map key_of rows i (no_row k) key inside) ∙ is in
    let same : s.keyword ≡ k = ap (λ (q : Key). q.0) own in
    let there = has_row_of k rows s (Contains-get_or rows i (no_row k) inside) same in (
      there.0,
      record {
        inside = there.1;
        is = ap key_of (get_or_default (rows_of k rows) there.0 (no_row k) s there.1 ∙ there.2) ∙ own;
      },
    )

-- of a list with one row more, which rows have a key
record IsAt (rows : List Statement) (key : Key) (n : ℕ) : Type 0 where
  inside : n < length rows
  is : key_of (get_or rows n (no_row key.0)) ≡ key

at_pushed : (rows : List Statement) (s : Statement) (key : Key) (n : ℕ) → IsAt (rows ++ s ∷ []) key n
    ↔ (IsAt rows key n ⊎ ((key ≡ key_of s) × (n ≡ length rows)))
at_pushed rows s key n = (
  λ h.
      let lt : n < length rows + 1 = rw length-append at h.inside in
      elim (cases_lt n (length rows)) [
        | inl before ↦ inl (record {
          inside = before;
          is = ap key_of (sym (get_or_append_left rows (s ∷ []) (no_row key.0) n before)) ∙ h.is;
        })
        | inr after ↦
            let last : n ≡ length rows = omega (arith, lt, after) in
            inr (sym (sym (ap key_of (get_or_push rows s (no_row key.0) n (sym last))) ∙ h.is), last)
      ],
  λ h. elim h [
    | inl old ↦ record {
      inside = let lt : n < length rows = old.inside in rw length-append (omega (arith, lt));
      is = ap key_of (get_or_append_left rows (s ∷ []) (no_row key.0) n old.inside) ∙ old.is;
    }
    | inr last ↦ record {
      inside = let is : n ≡ length rows = last.1 in rw length-append (omega (arith, is));
      is = ap key_of (get_or_push rows s (no_row key.0) n (sym last.1)) ∙ sym last.0;
    }
  ],
)

at_numbered : (rows : List Statement) (key : Key) (n : ℕ)
    → HasNumber rows key n ↔ IsAt (rows_of key.0 rows) key n
at_numbered rows key n = (
  λ h. record { inside = h.inside; is = h.is },
  λ h. record { inside = h.inside; is = h.is },
)

pub numbered_more : (rows : List Statement) (s : Statement) (key : Key) (n : ℕ)
    → HasNumber (rows ++ s ∷ []) key n
    ↔ (HasNumber rows key n ⊎ ((key ≡ key_of s) × (n ≡ length (rows_of s.keyword rows))))
numbered_more rows s key n = by (is_of key.0 s) refl
  where
    by : (b : Bool) → is_of key.0 s ≡ b → HasNumber (rows ++ s ∷ []) key n
        ↔ (HasNumber rows key n ⊎ ((key ≡ key_of s) × (n ≡ length (rows_of s.keyword rows))))
    by true is =
        let own : s.keyword ≡ key.0 = keyword_of key.0 s is in
        let all = rows_pushed key.0 rows s true is in
        let count : length (rows_of s.keyword rows) ≡ length (rows_of key.0 rows) =
        ap (λ k. length (rows_of k rows)) own in
        let step = at_pushed (rows_of key.0 rows) s key n in (
          λ h. elim (step.0 (subst (λ l. IsAt l key n) all ((at_numbered (rows ++ s ∷ []) key n).0 h))) [
            | inl old ↦ inl ((at_numbered rows key n).1 old)
            | inr last ↦ inr (last.0, last.1 ∙ sym count)
          ],
          λ h. (at_numbered (rows ++ s ∷ []) key n).1 (subst (λ l. IsAt l key n) (sym all) (step.1 (elim h [
            | inl old ↦ inl ((at_numbered rows key n).0 old)
            | inr last ↦ inr (last.0, last.1 ∙ count)
          ]))),
        )
    by false is =
        let all : rows_of key.0 (rows ++ s ∷ []) ≡ rows_of key.0 rows =
        rows_pushed key.0 rows s false is ∙ append-nil (rows_of key.0 rows) in (
          λ h. inl ((at_numbered rows key n).1
              (subst (λ l. IsAt l key n) all ((at_numbered (rows ++ s ∷ []) key n).0 h))),
          λ h. elim h [
            | inl old ↦ (at_numbered (rows ++ s ∷ []) key n).1
                (subst (λ l. IsAt l key n) (sym all) ((at_numbered rows key n).0 old))
            | inr last ↦ absurd (true≢false
                (sym (is_of-same key.0 s (sym (ap (λ (q : Key). q.0) last.0))) ∙ is))
          ],
        )
