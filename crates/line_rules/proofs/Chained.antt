-- How a table of words finds a word, and what keeps its chains.
use Rattle.std.proofs.Common.{ℕ, List, Bool, Option, ◌≡◌, ◌≢◌, ◌∙◌, ◌≤◌, ◌<◌, ◌+◌, ◌++◌, ◌∷◌, [], None, Some}
use Rattle.std.proofs.Common.{true, false, ap, arith, cond, get_or, length, map, refl, set, suc, subst, sym}
use Rattle.std.proofs.Common.{zero, true≢false, eqb, leb, ◌-◌}
use Rattle.std.proofs.lemmas.Bool.{eqb-false, eqb-true, leb-false, leb-true}
use Rattle.std.proofs.lemmas.Option.{none-some}
use Rattle.std.proofs.lemmas.List.{get_or-map, get_or_append_left, get_or-set_same, get_or-set_other}
use Rattle.std.proofs.lemmas.List.{get_or_push, length-append, length-map, length-set}
use Rattle.std.proofs.lemmas.Slice.Eq.{bytes_eq-Decides}
use Rattle.std.specs.Str.{bytes_eq}
use Rattle.text_lines.specs.Texts.{Word}
use Rattle.line_shapes.specs.declared.keyword.Keyword.{Keyword}
use Rattle.line_rules.specs.Rows.{first_by}
use Rattle.line_rules.specs.WordTable.{AreChained, IsLink, mark_of, pair_of, word_at}
use Rattle.line_rules.specs.declared.word_table.WordEntry.{WordEntry}

abbrev pub words_of : List WordEntry → List Word
words_of es = map (λ e. e.word.now) es

differ : (v w : Word) → v ≢ w → bytes_eq v w ≡ false
differ v w apart = by (bytes_eq v w) refl
  where
    by : (b : Bool) → bytes_eq v w ≡ b → b ≡ false
    by true is = absurd (apart ((bytes_eq-Decides v w).0 is))
    by false is = refl

-- a word that no entry has is not found
pub found_none : (es : List WordEntry) (word : Word)
    → ((j : ℕ) → j < length es → word_at (words_of es) j ≢ word) → first_by (map pair_of es) word ≡ None
found_none [] word none = refl
found_none (e ∷ es) word none =
    ap (λ b. cond b (Some e.of) (first_by (map pair_of es) word))
    (differ word e.word.now (λ is. none 0 (omega arith) (sym is)))
    ∙ found_none es word (λ j lt. none (suc j) (omega (arith, lt)))

-- a word is found in the first entry that has it
pub found_one : (es : List WordEntry) (word : Word) (i : ℕ) (d : WordEntry) → i < length es
    → (get_or es i d).word.now ≡ word → ((j : ℕ) → j < i → word_at (words_of es) j ≢ word)
    → first_by (map pair_of es) word ≡ Some (get_or es i d).of
found_one [] word i d lt is none = absurd (omega (arith, lt))
found_one (e ∷ es) word zero d lt is none =
    ap (λ b. cond b (Some e.of) (first_by (map pair_of es) word)) ((bytes_eq-Decides word e.word.now).1 (sym is))
found_one (e ∷ es) word (suc i) d lt is none =
    ap (λ b. cond b (Some e.of) (first_by (map pair_of es) word))
    (differ word e.word.now (λ same. none 0 (omega arith) (sym same)))
    ∙ found_one es word i d (omega (arith, lt)) is (λ j below. none (suc j) (omega (arith, below)))

some_none : (v : Keyword × ℕ) (rest : Option (Keyword × ℕ)) (b : Bool) → b ≡ true
    → cond b (Some v) rest ≡ None → ⊥
some_none v rest true is none = none-some _ (sym none)
some_none v rest false is none = absurd (true≢false (sym is))

rest_none : (v : Keyword × ℕ) (rest : Option (Keyword × ℕ)) (b : Bool) → cond b (Some v) rest ≡ None
    → rest ≡ None
rest_none v rest true none = absurd (none-some _ (sym none))
rest_none v rest false none = none

-- an entry of a word that is not found has another word
pub absent : (es : List WordEntry) (word : Word) → first_by (map pair_of es) word ≡ None
    → (j : ℕ) → j < length es → word_at (words_of es) j ≢ word
absent [] word none j lt is = absurd (omega (arith, lt))
absent (e ∷ es) word none zero lt is =
    some_none _ _ (bytes_eq word e.word.now) ((bytes_eq-Decides word e.word.now).1 (sym is)) none
absent (e ∷ es) word none (suc j) lt is =
    absent es word (rest_none _ _ (bytes_eq word e.word.now) none) j (omega (arith, lt)) is

abbrev pub nexts_of : List WordEntry → List ℕ
nexts_of es = map (λ e. e.next) es

pub word_in : (es : List WordEntry) (i : ℕ) (d : WordEntry) → i < length es
    → word_at (words_of es) i ≡ (get_or es i d).word.now
word_in es i d lt = get_or-map (λ e. e.word.now) es i d [] lt

next_in : (es : List WordEntry) (i : ℕ) (d : WordEntry) → i < length es
    → get_or (nexts_of es) i 0 ≡ (get_or es i d).next
next_in es i d lt = get_or-map (λ e. e.next) es i d 0 lt

-- an entry's link
pub link_at : (es : List WordEntry) (heads : List ℕ) → AreChained (words_of es) (nexts_of es) heads → (i : ℕ)
    (d : WordEntry) → i < length es
    → IsLink (words_of es) (length heads) (mark_of (word_at (words_of es) i) (length heads)) i (get_or es i d).next
link_at es heads c i d lt =
    subst (IsLink (words_of es) (length heads) (mark_of (word_at (words_of es) i) (length heads)) i)
    (next_in es i d lt) (c.then i (omega (arith, lt, length-map es (λ e. e.word.now))))

-- past an entry of another word with the same mark, no entry from its link on has the word
pub none_on : (words : List Word) (word : Word) (at link marks : ℕ)
    → IsLink words marks (mark_of (word_at words (at - 1)) marks) (at - 1) link
    → mark_of (word_at words (at - 1)) marks ≡ mark_of word marks → word_at words (at - 1) ≢ word
    → ((j : ℕ) → at ≤ j → j < length words → word_at words j ≢ word)
    → (j : ℕ) → link ≤ j → j < length words → word_at words j ≢ word
none_on words word at link marks l mark other after j low below same =
    by (eqb j (at - 1)) (leb at j) refl refl
  where
    by : (b past : Bool) → eqb j (at - 1) ≡ b → leb at j ≡ past → ⊥
    by true past here e = other (sym (ap (word_at words) (eqb-true j (at - 1) here)) ∙ same)
    by false true here e = after j (leb-true at j e) below same
    by false false here e =
        l.none j low (omega (arith, eqb-false j (at - 1) here, leb-false at j e))
        (ap (λ v. mark_of v marks) same ∙ sym mark)

-- ---- one word more

word_before : (words : List Word) (w : Word) (j : ℕ) → j < length words
    → word_at (words ++ w ∷ []) j ≡ word_at words j
word_before words w j lt = get_or_append_left words (w ∷ []) [] j lt

word_last : (words : List Word) (w : Word) → word_at (words ++ w ∷ []) (length words) ≡ w
word_last words w = get_or_push words w [] (length words) refl

one_longer : (words : List Word) (w : Word) → length (words ++ w ∷ []) ≡ length words + 1
one_longer words w = length-append words (w ∷ [])

-- links below the last word stay
link_kept : (words : List Word) (w : Word) (marks mark high link : ℕ) → high ≤ length words
    → IsLink words marks mark high link → IsLink (words ++ w ∷ []) marks mark high link
link_kept words w marks mark high link inside l = record {
  within = l.within;
  last = λ j is.
      ap (λ v. mark_of v marks) (word_before words w j (omega (arith, is, inside, l.within))) ∙ l.last j is;
  none = λ j low below is. l.none j low below
      (sym (ap (λ v. mark_of v marks) (word_before words w j (omega (arith, below, inside)))) ∙ is);
}

module _ (words : List Word) (nexts heads : List ℕ) (w : Word) (c : AreChained words nexts heads)
    (long : length nexts ≡ length words) (new : (j : ℕ) → j < length words → word_at words j ≢ w)
    (mark : ℕ) (is_mark : mark ≡ mark_of w (length heads)) (inside : mark < length heads) where
  abbrev all : List Word
  all = words ++ w ∷ []

  abbrev more_nexts : List ℕ
  more_nexts = nexts ++ get_or heads mark 0 ∷ []

  abbrev more_heads : List ℕ
  more_heads = set heads mark (length words + 1)

  abbrev marks : ℕ
  marks = length heads

  first_here : (m : ℕ) → m ≡ mark → IsLink all marks m (length all) (length words + 1)
  first_here m same = record {
    within = omega (arith, one_longer words w);
    last = λ j is.
        let at : j ≡ length words = omega (arith, is) in
        ap (λ i. mark_of (word_at all i) marks) at ∙ ap (λ v. mark_of v marks) (word_last words w)
        ∙ sym is_mark ∙ sym same;
    none = λ j low below. absurd (omega (arith, low, below, one_longer words w));
  }

  -- the last word has no mark but its own
  not_last : (m link j : ℕ) → m ≢ mark → IsLink words marks m (length words) link → link ≤ j → j < length all
      → mark_of (word_at all j) marks ≢ m
  not_last m link j other l low below is = by (eqb j (length words)) refl
    where
      by : (b : Bool) → eqb j (length words) ≡ b → ⊥
      by true e =
          other (sym is ∙ ap (λ i. mark_of (word_at all i) marks) (eqb-true j (length words) e)
          ∙ ap (λ v. mark_of v marks) (word_last words w) ∙ sym is_mark)
      by false e =
          let lt : j < length words = omega (arith, below, one_longer words w, eqb-false j (length words) e) in
          l.none j low lt (sym (ap (λ v. mark_of v marks) (word_before words w j lt)) ∙ is)

  first_there : (m : ℕ) → m < marks → m ≢ mark → IsLink all marks m (length all) (get_or heads m 0)
  first_there m lt other =
      let l = c.first m lt in record {
        within = omega (arith, l.within, one_longer words w);
        last = λ j is.
            ap (λ v. mark_of v marks) (word_before words w j (omega (arith, is, l.within))) ∙ l.last j is;
        none = λ j low below. not_last m (get_or heads m 0) j other l low below;
      }

  first_at : (m : ℕ) → m < marks → IsLink all marks m (length all) (get_or more_heads m 0)
  first_at m lt = by (eqb m mark) refl
    where
      by : (b : Bool) → eqb m mark ≡ b → IsLink all marks m (length all) (get_or more_heads m 0)
      by true e =
          let same : m ≡ mark = eqb-true m mark e in
          subst (IsLink all marks m (length all))
          (sym (ap (λ i. get_or more_heads i 0) same
          ∙ get_or-set_same heads mark (length words + 1) 0 inside))
          (first_here m same)
      by false e =
          let other : m ≢ mark = eqb-false m mark e in
          subst (IsLink all marks m (length all))
          (sym (get_or-set_other heads mark m (length words + 1) 0 other)) (first_there m lt other)

  next_at : (i : ℕ) → i < length all
      → IsLink all marks (mark_of (word_at all i) marks) i (get_or more_nexts i 0)
  next_at i lt = by (eqb i (length words)) refl
    where
      by : (b : Bool) → eqb i (length words) ≡ b
          → IsLink all marks (mark_of (word_at all i) marks) i (get_or more_nexts i 0)
      by true e =
          let at : i ≡ length words = eqb-true i (length words) e in
          let is : mark ≡ mark_of (word_at all i) marks =
          is_mark ∙ sym (ap (λ i. mark_of (word_at all i) marks) at
          ∙ ap (λ v. mark_of v marks) (word_last words w)) in
          let link : get_or more_nexts i 0 ≡ get_or heads mark 0 =
          ap (λ i. get_or more_nexts i 0) at
          ∙ get_or_push nexts (get_or heads mark 0) 0 (length words) long in
          let kept =
          link_kept words w marks mark (length words) (get_or heads mark 0) (omega arith)
          (c.first mark inside) in
          let P : ℕ × ℕ × ℕ → Type 0 = λ t. IsLink all marks t.0 t.1 t.2 in
          subst P (λ j. (is j, sym at j, sym link j)) kept
      by false e =
          let below : i < length words = omega (arith, lt, one_longer words w, eqb-false i (length words) e) in
          let is : mark_of (word_at words i) marks ≡ mark_of (word_at all i) marks =
          sym (ap (λ v. mark_of v marks) (word_before words w i below)) in
          let link : get_or more_nexts i 0 ≡ get_or nexts i 0 =
          get_or_append_left nexts (get_or heads mark 0 ∷ []) 0 i (omega (arith, below, long)) in
          let kept =
          link_kept words w marks (mark_of (word_at words i) marks) i (get_or nexts i 0) (omega (arith, below))
          (c.then i below) in
          let P : ℕ × ℕ → Type 0 = λ t. IsLink all marks t.0 i t.1 in
          subst P (λ j. (is j, sym link j)) kept

  apart_all : (i j : ℕ) → i < j → j < length all → word_at all i ≢ word_at all j
  apart_all i j lt below is = by (eqb j (length words)) refl
    where
      by : (b : Bool) → eqb j (length words) ≡ b → ⊥
      by true e =
          let at : j ≡ length words = eqb-true j (length words) e in
          let low : i < length words = omega (arith, lt, at) in
          new i low (sym (word_before words w i low) ∙ is ∙ ap (word_at all) at ∙ word_last words w)
      by false e =
          let inside : j < length words = omega (arith, below, one_longer words w, eqb-false j (length words) e) in
          c.apart i j lt inside
          (sym (word_before words w i (omega (arith, lt, inside))) ∙ is ∙ word_before words w j inside)

  -- the chains once a new word was put behind the others
  pub chained_more : AreChained all more_nexts more_heads
  chained_more =
      let same : marks ≡ length more_heads = sym (length-set heads mark (length words + 1)) in record {
        some = omega (arith, same, c.some);
        first = λ m lt. subst (λ n. IsLink all n m (length all) (get_or more_heads m 0)) same
            (first_at m (omega (arith, lt, same)));
        then = λ i lt. subst (λ n. IsLink all n (mark_of (word_at all i) n) i (get_or more_nexts i 0)) same
            (next_at i lt);
        apart = apart_all;
      }

-- a table without words
pub chained_none : (heads : List ℕ) → 0 < length heads → ((m : ℕ) → m < length heads → get_or heads m 0 ≡ 0)
    → AreChained [] [] heads
chained_none heads some none = record {
  some = some;
  first = λ m lt. record {
    within = omega (arith, none m lt);
    last = λ j is. absurd (omega (arith, is, none m lt));
    none = λ j low below. absurd (omega (arith, below));
  };
  then = λ i lt. absurd (omega (arith, lt));
  apart = λ i j lt below. absurd (omega (arith, below));
}
