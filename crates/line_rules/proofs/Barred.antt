-- Barred pairs that are kept by the numbers of their splits and their workers.
use Rattle.std.proofs.Common.{ℕ, List, [], ◌∷◌, ◌++◌, ◌≡◌, ◌≤◌, ◌<◌, ◌∙◌, Bool, true, false, Option, Some}
use Rattle.std.proofs.Common.{None, ap, append-nil, arith, cond, get_or, inl, inr, length, length-append, map, refl}
use Rattle.std.proofs.Common.{subst, sym}
use Rattle.std.specs.Prelude.{◌⊎◌, Contains, MatchOption}
use Rattle.std.specs.List.{All}
use Rattle.std.specs.Option.{IsSome}
use Rattle.std.proofs.lemmas.List.{get_or-map, get_or_append_left, get_or_past, length-map, map-append}
use Rattle.std.proofs.lemmas.Option.{none-some}
use Rattle.std.proofs.lemmas.List.Elements.{All-append, All-cons, All-head, All-nil, All-tail, All-weaker}
use Rattle.std.proofs.lemmas.List.Elements.{filter-append, filter_passes}
use Rattle.text_lines.specs.Texts.{Word}
use Rattle.line_shapes.specs.Lines.{Statement}
use Rattle.line_shapes.specs.declared.keyword.Keyword.{Keyword}
use Rattle.line_shapes.specs.declared.keyword.Keyword.TheVariants as keyword
use Rattle.line_rules.specs.Entering.{Key, entering_of, first_key, key_of, second_key}
use Rattle.line_rules.specs.declared.entering.Entering.{Entering}
use Rattle.line_rules.specs.declared.entering.Entering.TheVariants.{Word as ByWord}
use Rattle.line_rules.specs.Known.{HasNumber, is_of, keys_of, nth_row, rows_of}
use Rattle.line_rules.specs.Rows.{AreNumbered, AreNumbers, AreTabled, Bars, Firsts, HasKeyMore, IsBarOf}
use Rattle.line_rules.specs.Rows.{IsBarred, IsNewKey}
use Rattle.line_rules.specs.Rows.{IsNumbered, IsTabled, IsKeptAt, IsRowAt, Kept, Others, bar_by, bar_said}
use Rattle.line_rules.specs.Rows.{first_by, kept_of, name_in, other_by, rows_in, said_in, test_bar, worded}
use Rattle.line_rules.specs.Rows.Kept.{Bar, Line}
use Rattle.line_rules.specs.declared.line_list.KeptLine.{KeptLine}
use Rattle.line_rules.proofs.Keyed.{found_cases, found_kept, found_last, key_absent, pushed}
use Rattle.line_rules.proofs.OfKeyword.{is_of-other, keyword_of, no_row, numbered_more, numbered_there}

-- ---- the rows of a keyword

-- the rows of another keyword are kept by their words
pub of_worded : (k : Keyword) → (k ≡ keyword.Barred → ⊥) → (names : List Statement) (ks : List Kept)
    → rows_of k (map (said_in names) ks) ≡ rows_of k (worded ks)
of_worded k other names [] = refl
of_worded k other names (Line s ∷ ks) =
    ap (λ (l : List Statement). cond (is_of k s) (s ∷ l) l) (of_worded k other names ks)
of_worded k other names (Bar split worker ∷ ks) =
    let s : Statement = bar_said (name_in keyword.Split names split) (name_in keyword.Worker names worker) in
    let rest : List Statement = rows_of k (map (said_in names) ks) in
    ap (λ b. cond b (s ∷ rest) rest) (is_of-other k s (λ e. other (sym e))) ∙ of_worded k other names ks

not_split : keyword.Split ≡ keyword.Barred → ⊥
not_split e = cc

not_worker : keyword.Worker ≡ keyword.Barred → ⊥
not_worker e = cc

pub name_worded : (k : Keyword) → (k ≡ keyword.Barred → ⊥) → (ks : List Kept) (n : ℕ)
    → name_in k (rows_in ks) n ≡ name_in k (worded ks) n
name_worded k other ks n =
    ap (λ (l : List Statement). get_or (get_or l n (no_row k)).words 0 []) (of_worded k other (worded ks) ks)

-- no name past the last row
pub name_past : (k : Keyword) (rows : List Statement) (n : ℕ) → length (rows_of k rows) ≤ n
    → name_in k rows n ≡ []
name_past k rows n past =
    ap (λ (s : Statement). get_or s.words 0 []) (get_or_past (rows_of k rows) n (no_row k) past)

module _ (rows more : List Statement) where
  pub name_kept : (k : Keyword) (n : ℕ) → n < length (rows_of k rows)
      → name_in k (rows ++ more) n ≡ name_in k rows n
  name_kept k n lt =
      ap (λ (l : List Statement). get_or (get_or l n (no_row k)).words 0 []) (filter-append (is_of k) rows more)
      ∙ ap (λ (s : Statement). get_or s.words 0 [])
      (get_or_append_left (rows_of k rows) (rows_of k more) (no_row k) n lt)

  pub count_kept : (k : Keyword) (n : ℕ) → n < length (rows_of k rows) → n < length (rows_of k (rows ++ more))
  count_kept k n lt =
      let all : length (rows_of k (rows ++ more)) ≡ length (rows_of k rows ++ rows_of k more) =
      ap length (filter-append (is_of k) rows more) in
      omega (arith, lt, all, length-append (rows_of k rows) (rows_of k more))

  pub numbers_kept : (split worker : ℕ) → AreNumbers rows split worker → AreNumbers (rows ++ more) split worker
  numbers_kept split worker within =
      (count_kept keyword.Split split within.0, count_kept keyword.Worker worker within.1)

  said_kept : (x : Kept) → IsNumbered rows x → said_in (rows ++ more) x ≡ said_in rows x
  said_kept (Line s) within = refl
  said_kept (Bar split worker) within = λ i.
      bar_said (name_kept keyword.Split split within.0 i) (name_kept keyword.Worker worker within.1 i)

  all_kept : (ks : List Kept) → All (IsNumbered rows) ks
      → map (said_in (rows ++ more)) ks ≡ map (said_in rows) ks
  all_kept [] within = refl
  all_kept (x ∷ ks) within = λ i.
      said_kept x (All-head (IsNumbered rows) x ks within) i
      ∷ all_kept ks (All-tail (IsNumbered rows) x ks within) i

  one_numbered : (x : Kept) → IsNumbered rows x → IsNumbered (rows ++ more) x
  one_numbered (Line s) within = tt
  one_numbered (Bar split worker) within = numbers_kept split worker within

-- ---- one kept line more

worded_line : (ks : List Kept) (s : Statement) → worded (ks ++ Line s ∷ []) ≡ worded ks ++ s ∷ []
worded_line [] s = refl
worded_line (Line t ∷ ks) s = ap (λ (l : List Statement). t ∷ l) (worded_line ks s)
worded_line (Bar split worker ∷ ks) s = worded_line ks s

worded_bar : (ks : List Kept) (split worker : ℕ) → worded (ks ++ Bar split worker ∷ []) ≡ worded ks
worded_bar [] split worker = refl
worded_bar (Line t ∷ ks) split worker = ap (λ (l : List Statement). t ∷ l) (worded_bar ks split worker)
worded_bar (Bar s w ∷ ks) split worker = worded_bar ks split worker

pub rows_line : (ks : List Kept) (s : Statement) → AreNumbered ks
    → rows_in (ks ++ Line s ∷ []) ≡ rows_in ks ++ s ∷ []
rows_line ks s numbered =
    ap (λ (w : List Statement). map (said_in w) (ks ++ Line s ∷ [])) (worded_line ks s)
    ∙ map-append (said_in (worded ks ++ s ∷ [])) ks (Line s ∷ [])
    ∙ ap (λ (l : List Statement). l ++ s ∷ []) (all_kept (worded ks) (s ∷ []) ks numbered)

pub numbered_line : (ks : List Kept) (s : Statement) → AreNumbered ks → AreNumbered (ks ++ Line s ∷ [])
numbered_line ks s numbered =
    let all : List Statement = worded ks ++ s ∷ [] in
    subst (λ (w : List Statement). All (IsNumbered w) (ks ++ Line s ∷ [])) (sym (worded_line ks s))
    (All-append (IsNumbered all) ks (Line s ∷ [])
    (All-weaker (IsNumbered (worded ks)) (IsNumbered all) (one_numbered (worded ks) (s ∷ [])) ks numbered)
    (All-cons (IsNumbered all) (Line s) [] tt (All-nil (IsNumbered all))))

module _ (ks : List Kept) (split worker : ℕ) where
  -- the line of a pair that is kept by these numbers
  abbrev pub bar_line : Statement
  bar_line = bar_said (name_in keyword.Split (rows_in ks) split) (name_in keyword.Worker (rows_in ks) worker)

  pub rows_bar : rows_in (ks ++ Bar split worker ∷ []) ≡ rows_in ks ++ bar_line ∷ []
  rows_bar =
      ap (λ (w : List Statement). map (said_in w) (ks ++ Bar split worker ∷ [])) (worded_bar ks split worker)
      ∙ map-append (said_in (worded ks)) ks (Bar split worker ∷ [])
      ∙ (λ i. rows_in ks ++ bar_said (sym (name_worded keyword.Split not_split ks split) i)
      (sym (name_worded keyword.Worker not_worker ks worker) i) ∷ [])

  pub numbers_worded : AreNumbers (rows_in ks) split worker → AreNumbers (worded ks) split worker
  numbers_worded within = (
    subst (λ (l : List Statement). split < length l) (of_worded keyword.Split not_split (worded ks) ks) within.0,
    subst (λ (l : List Statement). worker < length l) (of_worded keyword.Worker not_worker (worded ks) ks)
        within.1,
  )

  pub numbered_bar : AreNumbered ks → AreNumbers (rows_in ks) split worker
      → AreNumbered (ks ++ Bar split worker ∷ [])
  numbered_bar numbered within =
      let P : Kept → Type 0 = IsNumbered (worded ks) in
      subst (λ (w : List Statement). All (IsNumbered w) (ks ++ Bar split worker ∷ []))
      (sym (worded_bar ks split worker))
      (All-append P ks (Bar split worker ∷ []) numbered
      (All-cons P (Bar split worker) [] (numbers_worded within) (All-nil P)))

-- ---- the row at a place

module _ (ks : List Kept) (p : ℕ) where
  pub kept_there : (l m : KeptLine) → l ≡ m → (p < length ks) × IsKeptAt ks p (kept_of l)
      → (p < length ks) × IsKeptAt ks p (kept_of m)
  kept_there l m is there = subst (λ (l : KeptLine). (p < length ks) × IsKeptAt ks p (kept_of l)) is there

  -- what the kept line says
  pub row_kept : (x : Kept) → (p < length ks) × IsKeptAt ks p x
      → (p < length (rows_in ks)) × IsRowAt (rows_in ks) p (said_in (worded ks) x)
  row_kept x there = (
    rw length-map there.0,
    λ d. get_or-map (said_in (worded ks)) ks p x d there.0 ∙ ap (said_in (worded ks)) (there.1 x),
  )

  pub row_bar : (split worker : ℕ) → (p < length ks) × IsKeptAt ks p (Bar split worker)
      → (p < length (rows_in ks)) × IsRowAt (rows_in ks) p (bar_line ks split worker)
  row_bar split worker there =
      let row = row_kept (Bar split worker) there in (
        row.0,
        λ d. row.1 d ∙ (λ i. bar_said (sym (name_worded keyword.Split not_split ks split) i)
            (sym (name_worded keyword.Worker not_worker ks worker) i)),
      )

  pub bar_numbers : (split worker : ℕ) → AreNumbered ks → (p < length ks) × IsKeptAt ks p (Bar split worker)
      → AreNumbers (rows_in ks) split worker
  bar_numbers split worker numbered there =
      let within : AreNumbers (worded ks) split worker =
      subst (IsNumbered (worded ks)) (there.1 (Bar split worker)) (numbered p (Bar split worker) there.0) in (
        subst (λ (l : List Statement). split < length l)
            (sym (of_worded keyword.Split not_split (worded ks) ks)) within.0,
        subst (λ (l : List Statement). worker < length l)
            (sym (of_worded keyword.Worker not_worker (worded ks) ks)) within.1,
      )

  -- a row of another keyword is kept by its words
  pub not_bar : (k : Keyword) → (k ≡ keyword.Barred → ⊥) → (n : ℕ) → n < length (rows_of k (rows_in ks))
      → (split worker : Word) → IsRowAt (rows_of k (rows_in ks)) n (bar_said split worker) → ⊥
  not_bar k other n lt split worker is =
      other (sym (keyword_of k (get_or (rows_of k (rows_in ks)) n (no_row k))
      (filter_passes (is_of k) (rows_in ks) n (no_row k) lt))
      ∙ ap (λ (s : Statement). s.keyword) (is (no_row k)))

-- ---- names and numbers

-- the row of a number has its name as its key, where rows of its keyword are entered by a word
pub has_name : (k : Keyword) → entering_of k ≡ ByWord → (rows : List Statement) (n : ℕ)
    → n < length (rows_of k rows) → HasNumber rows (k, name_in k rows n, []) n
has_name k by rows n lt =
    let s : Statement = nth_row k n rows in
    let same : s.keyword ≡ k = keyword_of k s (filter_passes (is_of k) rows n (no_row k) lt) in
    record {
      inside = lt;
      is = ap (λ (j : Keyword). let e = entering_of j in
          let key : Key = (j, first_key e s.words, second_key e s.words) in key) same
          ∙ ap (λ (e : Entering). let key : Key = (k, first_key e s.words, second_key e s.words) in key) by;
    }

pub name_of : (k : Keyword) → entering_of k ≡ ByWord → (rows : List Statement) (w : Word) (n : ℕ)
    → HasNumber rows (k, w, []) n → name_in k rows n ≡ w
name_of k by rows w n h =
    ap (λ (q : Key). q.1) (sym (has_name k by rows n h.inside).is ∙ h.is)

-- ---- the table of pairs

-- the same pair
same_bar : (p q : ℕ × ℕ) → test_bar p q ≡ true → p ≡ q
same_bar p q is = grind arith

pub equal_bar : (p : ℕ × ℕ) → test_bar p p ≡ true
equal_bar p = grind arith

-- a pair that stands in the table has what all its pairs have
bar_has : (P : ℕ × ℕ → Type 0) (bars : Bars) (bar : ℕ × ℕ) (n : ℕ) → All (λ e. P e.0) bars
    → bar_by bars bar ≡ Some n → P bar
bar_has P [] bar n all is = cc
bar_has P (e ∷ bars) bar n all is =
    by (test_bar bar e.0) refl (bar_has P bars bar n (All-tail (λ d. P d.0) e bars all))
  where
    by : (b : Bool) → test_bar bar e.0 ≡ b → (bar_by bars bar ≡ Some n → P bar) → P bar
    by true same rest = subst P (sym (same_bar bar e.0 same)) (All-head (λ d. P d.0) e bars all)
    by false other rest = rest (sym (ap (λ b. cond b (Some e.1) (bar_by bars bar)) other) ∙ is)

module _ (rows : List Statement) (firsts : Firsts) (others : Others) (bars : Bars)
    (tabled : AreTabled rows firsts others bars) where
  abbrev Numbers : ℕ × ℕ → Type 0
  Numbers bar = AreNumbers rows bar.0 bar.1

  pub bar_within : (bar : ℕ × ℕ) (n : ℕ) → bar_by bars bar ≡ Some n → AreNumbers rows bar.0 bar.1
  bar_within bar n is = bar_has Numbers bars bar n tabled.within is

  -- a pair in the table has a row
  pub bar_entered : (bar : ℕ × ℕ) (n : ℕ) → bar_by bars bar ≡ Some n
      → Contains (keys_of rows)
      (keyword.Barred, name_in keyword.Split rows bar.0, name_in keyword.Worker rows bar.1)
  bar_entered bar n there =
      let key : Key = (keyword.Barred, name_in keyword.Split rows bar.0, name_in keyword.Worker rows bar.1) in
      numbered_there rows key n ((tabled.keys key n).1 (inr (record { bar = bar; there = there; is = refl })))

  -- a key that is no pair's stands in the tables of words, with one number
  in_words : (key : Key) (n : ℕ) → (key.0 ≡ keyword.Barred → ⊥) → HasNumber rows key n
      → IsTabled firsts others key n
  in_words key n other h = elim ((tabled.keys key n).0 h) [
    | inl there ↦ there
    | inr barred ↦ absurd (other (ap (λ (q : Key). q.0) barred.is))
  ]

  pub one_number : (key : Key) (n m : ℕ) → (key.0 ≡ keyword.Barred → ⊥) → HasNumber rows key n
      → HasNumber rows key m → n ≡ m
  one_number key n m other h i = tabled.one key n m (in_words key n other h) (in_words key m other i)

  -- the names of a pair in the table are declared
  module _ (k : Keyword) (first second : Word) (n : ℕ) (b : IsBarred rows bars (k, first, second) n) where
    split_has : HasNumber rows (keyword.Split, first, []) b.bar.0
    split_has =
        subst (λ (w : Word). HasNumber rows (keyword.Split, w, []) b.bar.0) (sym (ap (λ (q : Key). q.1) b.is))
        (has_name keyword.Split refl rows b.bar.0 (bar_within b.bar n b.there).0)

    worker_has : HasNumber rows (keyword.Worker, second, []) b.bar.1
    worker_has =
        subst (λ (w : Word). HasNumber rows (keyword.Worker, w, []) b.bar.1) (sym (ap (λ (q : Key). q.2) b.is))
        (has_name keyword.Worker refl rows b.bar.1 (bar_within b.bar n b.there).1)

    pub split_there : IsTabled firsts others (keyword.Split, first, []) b.bar.0
    split_there = in_words (keyword.Split, first, []) b.bar.0 not_split split_has

    pub worker_there : IsTabled firsts others (keyword.Worker, second, []) b.bar.1
    worker_there = in_words (keyword.Worker, second, []) b.bar.1 not_worker worker_has

    -- and its numbers are those with which its names stand in the tables of words
    pub bar_found : (split worker : ℕ) → IsTabled firsts others (keyword.Split, first, []) split
        → IsTabled firsts others (keyword.Worker, second, []) worker → bar_by bars (split, worker) ≡ Some n
    bar_found split worker one two =
        let a : b.bar.0 ≡ split = tabled.one (keyword.Split, first, []) b.bar.0 split split_there one in
        let c : b.bar.1 ≡ worker = tabled.one (keyword.Worker, second, []) b.bar.1 worker worker_there two in
        ap (bar_by bars) (λ i. (sym a i, sym c i)) ∙ b.there

  pub barred_by : (first second : Word) (split worker n : ℕ)
      → IsTabled firsts others (keyword.Split, first, []) split
      → IsTabled firsts others (keyword.Worker, second, []) worker → bar_by bars (split, worker) ≡ Some n
      → IsBarred rows bars (keyword.Barred, first, second) n
  barred_by first second split worker n one two there =
      let a = (tabled.keys (keyword.Split, first, []) split).1 (inl one) in
      let b = (tabled.keys (keyword.Worker, second, []) worker).1 (inl two) in
      record {
        bar = (split, worker);
        there = there;
        is = λ i. (
          keyword.Barred,
          sym (name_of keyword.Split refl rows first split a) i,
          sym (name_of keyword.Worker refl rows second worker b) i,
        );
      }

  -- the pair of these names is new where neither table has it
  pub bar_new : (first second : Word) (bar : ℕ × ℕ) → IsBarOf rows (bar_said first second) bar
      → (second ≡ [] → ⊥) → bar_by bars bar ≡ None
      → other_by others (keyword.Barred, first, second) ≡ None
      → Contains (keys_of rows) (keyword.Barred, first, second) → ⊥
  bar_new first second bar of some none other =
      let key : Key = (keyword.Barred, first, second) in
      let one : IsTabled firsts others (keyword.Split, first, []) bar.0 =
      in_words (keyword.Split, first, []) bar.0 not_split
      (subst (λ (w : Word). HasNumber rows (keyword.Split, w, []) bar.0)
      (sym (ap (λ (s : Statement). get_or s.words 0 []) of.is))
      (has_name keyword.Split refl rows bar.0 of.within.0)) in
      let two : IsTabled firsts others (keyword.Worker, second, []) bar.1 =
      in_words (keyword.Worker, second, []) bar.1 not_worker
      (subst (λ (w : Word). HasNumber rows (keyword.Worker, w, []) bar.1)
      (sym (ap (λ (s : Statement). get_or s.words 1 []) of.is))
      (has_name keyword.Worker refl rows bar.1 of.within.1)) in
      let new : IsNewKey firsts others key = λ n h. elim h [
        | inl there ↦ some there.0
        | inr there ↦ none-some n (sym other ∙ there)
      ] in
      key_absent rows firsts others bars tabled key new
      (λ n b. none-some n (sym none ∙ bar_found keyword.Barred first second n b bar.0 bar.1 one two))

  pub no_pair : (key : Key) (o : Option ℕ) → o ≡ None → ((n : ℕ) → IsBarred rows bars key n → ⊥)
      → MatchOption o ((n : ℕ) → IsBarred rows bars key n → ⊥) (IsBarred rows bars key)
  no_pair key o none absent =
      subst (λ p. MatchOption p ((n : ℕ) → IsBarred rows bars key n → ⊥) (IsBarred rows bars key)) (sym none) absent

  module _ (more : List Statement) where
    barred_more : (q : Key) (n : ℕ) → IsBarred rows bars q n → IsBarred (rows ++ more) bars q n
    barred_more q n b =
        let within = bar_within b.bar n b.there in
        record {
          bar = b.bar;
          there = b.there;
          is = b.is ∙ (λ i. (
            keyword.Barred,
            sym (name_kept rows more keyword.Split b.bar.0 within.0) i,
            sym (name_kept rows more keyword.Worker b.bar.1 within.1) i,
          ));
        }

    barred_less : (q : Key) (n : ℕ) → IsBarred (rows ++ more) bars q n → IsBarred rows bars q n
    barred_less q n b =
        let within = bar_within b.bar n b.there in
        record {
          bar = b.bar;
          there = b.there;
          is = b.is ∙ (λ i. (
            keyword.Barred,
            name_kept rows more keyword.Split b.bar.0 within.0 i,
            name_kept rows more keyword.Worker b.bar.1 within.1 i,
          ));
        }

    within_kept : All (λ e. AreNumbers (rows ++ more) e.0.0 e.0.1) bars
    within_kept =
        All-weaker (λ e. AreNumbers rows e.0.0 e.0.1) (λ e. AreNumbers (rows ++ more) e.0.0 e.0.1)
        (λ e within. numbers_kept rows more e.0.0 e.0.1 within) bars tabled.within

  -- one row more, whose key the tables of words have
  pub tabled_line : (s : Statement) (new : Firsts) (new_others : Others)
      → HasKeyMore firsts others (key_of s) (length (rows_of s.keyword rows)) new new_others
      → IsNewKey firsts others (key_of s) → AreTabled (rows ++ s ∷ []) new new_others bars
  tabled_line s new new_others more new_key = record {
    keys = λ q m. (
      λ h. elim ((numbered_more rows s q m).0 h) [
        | inl old ↦ elim ((tabled.keys q m).0 old) [
          | inl there ↦ inl ((more.keys q m).1 (inl there))
          | inr barred ↦ inr (barred_more (s ∷ []) q m barred)
        ]
        | inr same ↦ inl ((more.keys q m).1 (inr same))
      ],
      λ h. (numbered_more rows s q m).1 (elim h [
        | inl there ↦ elim ((more.keys q m).0 there) [
          | inl old ↦ inl ((tabled.keys q m).1 (inl old))
          | inr same ↦ inr same
        ]
        | inr barred ↦ inl ((tabled.keys q m).1 (inr (barred_less (s ∷ []) q m barred)))
      ]),
    );
    words = λ k word h. elim (pushed key_of rows s (k, word, []) h) [
      | inl old ↦ more.kept word (tabled.words k word old)
      | inr same ↦ subst (λ (w : Word). IsSome (first_by new w)) (ap (λ (q : Key). q.1) same)
          (more.word (ap (λ (q : Key). q.2) same))
    ];
    one = λ q n m t u. elim ((more.keys q n).0 t) [
      | inl old ↦ elim ((more.keys q m).0 u) [
        | inl too ↦ tabled.one q n m old too
        | inr same ↦ absurd (new_key n (subst (λ (p : Key). IsTabled firsts others p n) same.0 old))
      ]
      | inr last ↦ elim ((more.keys q m).0 u) [
        | inl old ↦ absurd (new_key m (subst (λ (p : Key). IsTabled firsts others p m) last.0 old))
        | inr same ↦ last.1 ∙ sym same.1
      ]
    ];
    within = within_kept (s ∷ []);
  }

  -- one pair more, by its numbers
  module _ (split worker n : ℕ) (new : Bars) (within : AreNumbers rows split worker)
      (counted : n ≡ length (rows_of keyword.Barred rows)) (none : bar_by bars (split, worker) ≡ None)
      (grown : new ≡ bars ++ ((split, worker), n) ∷ []) where
    abbrev line : Statement
    line = bar_said (name_in keyword.Split rows split) (name_in keyword.Worker rows worker)

    abbrev all : List Statement
    all = rows ++ line ∷ []

    abbrev put : Bars
    put = bars ++ ((split, worker), n) ∷ []

    -- the names of the pair are the same with its row
    own : key_of line ≡ (keyword.Barred, name_in keyword.Split all split, name_in keyword.Worker all worker)
    own = λ i. (
      keyword.Barred,
      sym (name_kept rows (line ∷ []) keyword.Split split within.0) i,
      sym (name_kept rows (line ∷ []) keyword.Worker worker within.1) i,
    )

    barred_put : (q : Key) (m : ℕ) → IsBarred rows bars q m → IsBarred all put q m
    barred_put q m b =
        let c = barred_more (line ∷ []) q m b in
        record {
          bar = c.bar;
          there = found_kept (test_bar c.bar) ((split, worker), n) bars m c.there;
          is = c.is;
        }

    barred_last : (q : Key) (m : ℕ) → q ≡ key_of line → m ≡ n → IsBarred all put q m
    barred_last q m is last = record {
      bar = (split, worker);
      there = found_last (test_bar (split, worker)) ((split, worker), n) bars none (equal_bar (split, worker))
          ∙ ap Some (sym last);
      is = is ∙ own;
    }

    barred_cases : (q : Key) (m : ℕ) → IsBarred all put q m
        → IsBarred rows bars q m ⊎ ((q ≡ key_of line) × (m ≡ n))
    barred_cases q m b = elim (found_cases (test_bar b.bar) ((split, worker), n) bars m b.there) [
      | inl old ↦ inl (barred_less (line ∷ []) q m (record { bar = b.bar; there = old; is = b.is }))
      | inr last ↦
          let same : b.bar ≡ (split, worker) = same_bar b.bar (split, worker) last.0 in
          inr (
            b.is ∙ (λ i. (
              keyword.Barred,
              name_in keyword.Split all (same i).0,
              name_in keyword.Worker all (same i).1,
            )) ∙ sym own,
            last.1,
          )
    ]

    pub tabled_bar : AreTabled (rows ++ line ∷ []) firsts others new
    tabled_bar = subst (λ (l : Bars). AreTabled all firsts others l) (sym grown) (record {
      keys = λ q m. (
        λ h. elim ((numbered_more rows line q m).0 h) [
          | inl old ↦ elim ((tabled.keys q m).0 old) [
            | inl there ↦ inl there
            | inr barred ↦ inr (barred_put q m barred)
          ]
          | inr same ↦ inr (barred_last q m same.0 (same.1 ∙ sym counted))
        ],
        λ h. (numbered_more rows line q m).1 (elim h [
          | inl there ↦ inl ((tabled.keys q m).1 (inl there))
          | inr barred ↦ elim (barred_cases q m barred) [
            | inl old ↦ inl ((tabled.keys q m).1 (inr old))
            | inr same ↦ inr (same.0, same.1 ∙ counted)
          ]
        ]),
      );
      words = λ k word h. elim (pushed key_of rows line (k, word, []) h) [
        | inl old ↦ tabled.words k word old
        | inr same ↦
            let key : Key = (keyword.Split, name_in keyword.Split rows split, []) in
            let there : Contains (keys_of rows) key =
            numbered_there rows key split (has_name keyword.Split refl rows split within.0) in
            subst (λ (w : Word). IsSome (first_by firsts w)) (ap (λ (q : Key). q.1) same)
            (tabled.words keyword.Split (name_in keyword.Split rows split) there)
      ];
      one = tabled.one;
      within = All-append (λ e. AreNumbers all e.0.0 e.0.1) bars (((split, worker), n) ∷ [])
          (within_kept (line ∷ []))
          (All-cons (λ e. AreNumbers all e.0.0 e.0.1) ((split, worker), n) []
          (numbers_kept rows (line ∷ []) split worker within) (All-nil (λ e. AreNumbers all e.0.0 e.0.1)));
    })
