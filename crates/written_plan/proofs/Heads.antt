-- The head of a text to plan from: it fits a text to check as well, and its names are names, each once.
use Rattle.std.proofs.Common.{List, [], ◌∷◌, ◌++◌, ◌≡◌, ◌≢◌, ◌≤◌, ◌<◌, ◌∙◌, ◌⊎◌, Some, inl}
use Rattle.std.proofs.Common.{inr, ap, arith, codes, length, refl, subst, sym}
use Rattle.std.specs.List.{All, Contains}
use Rattle.std.proofs.lemmas.Grind.{common_steps}
use Rattle.std.proofs.lemmas.List.{map-append}
use Rattle.std.proofs.lemmas.List.Elements.{All-cons, All-nil, Contains-append_cases, filter-append}
use Rattle.text_lines.specs.Texts.{IsPrintable, Line, Word}
use Rattle.line_shapes.specs.Lines.{Says, Statement}
use Rattle.line_shapes.specs.Places.{place_at, places_of}
use Rattle.line_shapes.specs.declared.keyword.Keyword.{Keyword}
use Rattle.line_shapes.specs.declared.keyword.Keyword.TheVariants.{Worker, Split, Start, Price, End}
use Rattle.line_shapes.specs.declared.place.Place.TheVariants.{New}
use Rattle.line_rules.specs.Entering.{Key, entered_of, entering_of, key_of}
use Rattle.line_rules.specs.Faults.{IsFit, Keep}
use Rattle.line_rules.specs.Known.{HasRow, IsTaken, Known, entered, keys_of, rows_of}
use Rattle.line_rules.specs.Reading.{AreFitLines, IsFitLine}
use Rattle.line_rules.specs.Sections.{section_of}
use Rattle.line_rules.specs.declared.entering.Entering.TheVariants.{Word as ByWord}
use Rattle.line_rules.specs.declared.purpose.Purpose.{Purpose}
use Rattle.line_rules.specs.declared.purpose.Purpose.TheVariants.{Checking, Planning}
use Rattle.line_rules.specs.declared.rule.Rule.TheVariants as rule
use Rattle.line_rules.specs.declared.section.Section.TheVariants.{Head, Ended}
use Rattle.line_rules.proofs.FitLines.{names_after}
use Rattle.written_plan.proofs.HeadKinds.{IsOfHead, head_or_end}
use Rattle.written_plan.proofs.Lines.{line-one_word}
use Rattle.written_plan.proofs.Words.{said}

-- ---- lines that fit

pub fit-printable : (k : Known) (ls : List Line) (ss : List Statement) → AreFitLines k ls ss
    → All (All IsPrintable) ls
fit-printable k [] ss f = All-nil (All IsPrintable)
fit-printable k (l ∷ ls) [] f = absurd f
fit-printable k (l ∷ ls) (s ∷ ss) f =
    All-cons (All IsPrintable) l ls f.0.printable (fit-printable (entered k s) ls ss f.1)

none_after : (k : Known) (ls : List Line) (ss : List Statement) → k.section ≡ Ended → AreFitLines k ls ss
    → (ls ≡ []) × (ss ≡ [])
none_after k [] [] ended f = (refl, refl)
none_after k (l ∷ ls) (s ∷ ss) ended f = absurd (f.0.not_ended ended)
none_after k ls ss ended f = absurd f

-- ---- the rows of one line more

row-entered : (s : Statement) (key : Key) → Contains (keys_of (entered_of s)) key → key_of s ≡ key
row-entered s key = grind arith

-- a row stood before, or is of this line
row_cases : (rows : List Statement) (s : Statement) (k : Keyword) (n : Word) →
    HasRow (rows ++ entered_of s) k n
    → HasRow rows k n ⊎ (key_of s ≡ (k, n, []))
row_cases rows s k n h =
    let key : Key = (k, n, []) in
    elim (Contains-append_cases (keys_of rows) (keys_of (entered_of s)) key
    (subst (λ (ks : List Key). Contains ks key) (map-append key_of rows (entered_of s)) h)) [
      | inl old ↦ inl old
      | inr new ↦ inr (row-entered s key new)
    ]

rows_of-entered : (k : Keyword) (s : Statement) → (s.keyword ≡ k → ⊥) → rows_of k (entered_of s) ≡ []
rows_of-entered k s other = grind arith

-- nothing of a plan stands in the rows
pub record IsBare (rows : List Statement) : Type 0 where
  pub no_starts : rows_of Start rows ≡ []
  pub no_prices : rows_of Price rows ≡ []

none-more : (k : Keyword) (rows : List Statement) (s : Statement) → (s.keyword ≡ k → ⊥) → rows_of k rows ≡ []
    → rows_of k (rows ++ entered_of s) ≡ []
none-more k rows s other none = grind (arith, filter-append, rows_of-entered)

bare-entered : (rows : List Statement) (s : Statement) → IsOfHead s.keyword → IsBare rows
    → IsBare (rows ++ entered_of s)
bare-entered rows s head bare = grind (arith, none-more)

-- no name is a split's and a worker's
abbrev pub AreApart : List Statement → Type 0
AreApart rows = (n : Word) → HasRow rows Split n → HasRow rows Worker n → ⊥

-- what a line declares was not taken
new_name : (j : Keyword) → place_at j 0 ≡ Some New → entering_of j ≡ ByWord → 0 < length (places_of j)
    → (rows : List Statement) (s : Statement) (n : Word) → length (places_of s.keyword) ≤ length s.words
    → Keep rule.Free rows s → key_of s ≡ (j, n, []) → IsTaken rows n → ⊥
new_name j first by some rows s n whole free key = grind arith

apart-entered : (rows : List Statement) (s : Statement) → length (places_of s.keyword) ≤ length s.words
    → Keep rule.Free rows s → AreApart rows → AreApart (rows ++ entered_of s)
apart-entered rows s whole free apart n split worker =
    elim (row_cases rows s Split n split) [
      | inl old ↦ elim (row_cases rows s Worker n worker) [
        | inl still ↦ apart n old still
        | inr new ↦ new_name Worker refl refl (omega arith) rows s n whole free new
            (inr (inr (inr (inl old))))
      ]
      | inr first ↦ elim (row_cases rows s Worker n worker) [
        | inl still ↦ new_name Split refl refl (omega arith) rows s n whole free first (inr (inr (inl still)))
        | inr new ↦ absurd (let both : Split ≡ Worker = ap (λ (q : Key). q.0) (sym first ∙ new) in cc)
      ]
    ]

-- ---- a line of the head in a text to check

-- the same lines, for a text to check
abbrev pub checking : Known → Known
checking k = record k { purpose = Checking }

fit-checking : (k : Known) (s : Statement) → k.purpose ≡ Planning → IsOfHead s.keyword → IsFit k s
    → IsFit (checking k) s
fit-checking k s planning head fit = grind arith

-- ---- the whole head

-- the lines are those of a head and `end`
pub record IsHeadAndEnd (k : Known) (ls : List Line) (ss : List Statement) : Type 0 where
  pub lines : List Line
  pub head : List Statement
  pub whole_lines : ls ≡ lines ++ codes "end" ∷ []
  pub whole : ss ≡ head ++ said End [] ∷ []
  pub fit : AreFitLines (checking k) lines head
  pub in_head : (names_after k head).section ≡ Head
  pub bare : IsBare (names_after k head).rows
  pub apart : AreApart (names_after k head).rows

no_words : (s : Statement) (line : Line) → s.keyword ≡ End → Says line s → s.words ≡ []
no_words s line same says = grind (arith, common_steps)

end_said : (s : Statement) (line : Line) → s.keyword ≡ End → Says line s → s ≡ said End []
end_said s line same says = grind (arith, no_words, said)

end_line : (line : Line) → Says line (said End []) → line ≡ codes "end"
end_line line says = line-one_word line (codes "end") says.spelled

at_end : (k : Known) (l : Line) (ls : List Line) (ss : List Statement) → k.purpose ≡ Planning → IsBare k.rows
    → AreApart k.rows → IsFitLine k l (said End []) → AreFitLines (entered k (said End [])) ls ss
    → IsHeadAndEnd k (l ∷ ls) (said End [] ∷ ss)
at_end k l ls ss planning bare apart first rest =
    let none = none_after (entered k (said End [])) ls ss refl rest in
    let line : l ≡ codes "end" = end_line l first.says in
    let stands : Some Head ≡ Some k.section =
    ap (λ (p : Purpose). section_of p End) (sym planning) ∙ first.fit.may_stand.0 in
    record {
      lines = [];
      head = [];
      whole_lines = ap (λ (m : Line). m ∷ ls) line ∙ ap (λ (ms : List Line). codes "end" ∷ ms) none.0;
      whole = ap (λ (ts : List Statement). said End [] ∷ ts) none.1;
      fit = tt;
      in_head = let section : Head ≡ k.section = cc in sym section;
      bare = bare;
      apart = apart;
    }

before_end : (k : Known) (l : Line) (s : Statement) (ls : List Line) (ss : List Statement) →
    k.purpose ≡ Planning
    → IsOfHead s.keyword → IsFitLine k l s → IsHeadAndEnd (entered k s) ls ss →
    IsHeadAndEnd k (l ∷ ls) (s ∷ ss)
before_end k l s ls ss planning head first rest = record {
  lines = l ∷ rest.lines;
  head = s ∷ rest.head;
  whole_lines = ap (λ (ms : List Line). l ∷ ms) rest.whole_lines;
  whole = ap (λ (ts : List Statement). s ∷ ts) rest.whole;
  fit = (
    record {
      printable = first.printable;
      not_ended = first.not_ended;
      says = first.says;
      fit = fit-checking k s planning head first.fit;
    },
    rest.fit,
  );
  in_head = rest.in_head;
  bare = rest.bare;
  apart = rest.apart;
}

pub head_and_end : (k : Known) (ls : List Line) (ss : List Statement) → k.purpose ≡ Planning → IsBare k.rows
    → AreApart k.rows → k.section ≢ Ended → AreFitLines k ls ss → (names_after k ss).section ≡ Ended
    → IsHeadAndEnd k ls ss
head_and_end k [] [] planning bare apart going fit ended = absurd (going ended)
head_and_end k (l ∷ ls) (s ∷ ss) planning bare apart going fit ended =
    let stands : section_of Planning s.keyword ≡ Some k.section =
    ap (λ (p : Purpose). section_of p s.keyword) (sym planning) ∙ fit.0.fit.may_stand.0 in
    elim (head_or_end s.keyword k.section stands) [
      | inl head ↦ before_end k l s ls ss planning head fit.0
          (head_and_end (entered k s) ls ss planning (bare-entered k.rows s head bare)
          (apart-entered k.rows s fit.0.says.many fit.0.fit.new.names apart)
          (λ e. let both : Head ≡ Ended = sym head.after ∙ e in cc) fit.1 ended)
      | inr last ↦ grind (arith, end_said, said, at_end)
    ]
head_and_end k ls ss planning bare apart going fit ended = absurd fit

pub bare-none : IsBare []
bare-none = record { no_starts = refl; no_prices = refl }

pub apart-none : AreApart []
apart-none n split worker = absurd (let lt = split.1 in omega arith)
