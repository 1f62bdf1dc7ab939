-- Line by line: what is known of a text whose first lines have been read without a fault.
use Rattle.std.proofs.Common.{ℕ, List, [], ◌∷◌, ◌≡◌, ◌++◌, ◌+◌, ◌≤◌, ◌<◌, inl, inr, length, take, drop, refl}
use Rattle.std.proofs.Common.{sym, ap, subst, ◌∙◌, arith, length-drop, length-append, add-one, suc, get_or}
use Rattle.std.proofs.Common.{◌==◌, drop_of_length-le}
use Rattle.std.proofs.Math.Seq.{drop-cons, take-suc}
use Rattle.std.proofs.lemmas.Bool.{cases_lt, cases_eq}
use Rattle.std.proofs.lemmas.List.Splits.{length-slice_split}
use Rattle.text_lines.specs.Streams.{longest}
use Rattle.text_lines.specs.Texts.{Line, lines_of}
use Rattle.text_lines.specs.declared.fault.Fault.{Fault}
use Rattle.text_lines.specs.declared.fault.Fault.TheVariants.{Misplaced, TooLong}
use Rattle.line_shapes.specs.Lines.{Statement}
use Rattle.line_rules.specs.Texts.{Declare}
use Rattle.line_rules.specs.Known.{Known, entered, known_at}
use Rattle.line_rules.specs.Texts.{Applies, FirstHas, IsLeastAt, IsLeastFault, LineHas, RestHas}
use Rattle.line_rules.specs.Faults.{IsLeastOf}
use Rattle.line_rules.proofs.OneReading.{declare-unique}
use Rattle.line_rules.proofs.Steps.{declare-step, known_at-step}
use Rattle.line_rules.specs.declared.purpose.Purpose.{Purpose}
use Rattle.line_rules.specs.declared.section.Section.TheVariants.{Ended}
use Rattle.line_rules.specs.Reading.{AreFitLines, IsAllRead, IsFitLine, IsLeastError, Takes, IsReadingError}
use Rattle.line_rules.specs.Reading.{error_at}
use Rattle.line_rules.specs.declared.line_reader.LineError.{LineError}
use Rattle.line_rules.specs.declared.line_reader.LineError.TheVariants as error
use Rattle.line_rules.proofs.FitLines.{fit-step, known_after, names_after}
use Rattle.line_rules.proofs.LineErrors.{line_faultless}

-- the first n lines have no fault, and say the statements that k holds; these lines are left
pub record IsReadTo (purpose : Purpose) (text : List ℕ) (left : List Line) (n : ℕ) (k : Known) : Type 0 where
  pub before : List Statement
  pub count : length before ≡ n
  pub says : Declare (take n (lines_of text)) before
  pub fit : AreFitLines (known_at purpose []) (take n (lines_of text)) before
  pub rest : left ≡ drop n (lines_of text)
  pub known : k ≡ known_at purpose before
  pub faultless : (j : ℕ) (g : Fault) → j < n → Applies purpose text j g → ⊥

pub read_none : (purpose : Purpose) (text : List ℕ) (k : Known) → k ≡ known_at purpose []
    → IsReadTo purpose text (lines_of text) 0 k
read_none purpose text k known = grind arith

-- ---- lists

inside_from_cut : {X : Type 0} (n : ℕ) (xs ys : List X) (x : X) → drop n xs ≡ x ∷ ys → n < length xs
inside_from_cut n xs ys x e = omega (arith, ap length e, length-drop n xs)

take_one : {X : Type 0} (n : ℕ) (xs ys : List X) (x : X) → drop n xs ≡ x ∷ ys
    → take (n + 1) xs ≡ take n xs ++ x ∷ []
take_one n xs ys x e =
    let inside = inside_from_cut n xs ys x e in
    let cut = drop-cons xs n x inside in
    let here : get_or xs n x ≡ x = cc in
    rw add-one (take-suc xs n x inside ∙ ap (λ y. take n xs ++ y ∷ []) here)

drop_one : {X : Type 0} (n : ℕ) (xs ys : List X) (x : X) → drop n xs ≡ x ∷ ys → drop (n + 1) xs ≡ ys
drop_one n xs ys x e =
    let inside = inside_from_cut n xs ys x e in
    let cut = drop-cons xs n x inside in
    let rest : drop (suc n) xs ≡ ys = cc in
    rw add-one rest

-- ---- the line that is left first

-- it has its line feed where others are left after it
feed_follows : (k : Known) (line : Line) (ls : List Line) → 0 < length ls
    → FirstHas k (line ∷ ls) ≡ LineHas k line
feed_follows k line [] h = absurd (omega arith)
feed_follows k line (next ∷ more) h = refl

pub some_line : (text : List ℕ) → 0 < length (lines_of text)
some_line text = omega (arith, length-slice_split (λ b. b == 10) text)

-- a fault of line n is one of the line that is left first
first_has : (purpose : Purpose) (text : List ℕ) (left : List Line) (n : ℕ) (k : Known)
    → IsReadTo purpose text left n k → (g : Fault) → Applies purpose text n g → FirstHas k left g
first_has purpose text left n k read g applies = grind (arith, declare-unique)

line_has : (purpose : Purpose) (text : List ℕ) (left : List Line) (line : Line) (after : List Line)
    (n : ℕ) (k : Known)
    → IsReadTo purpose text left n k → left ≡ line ∷ after → 0 < length after → (g : Fault)
    → Applies purpose text n g
    → LineHas k line g
line_has purpose text left line after n k read split more g applies =
    subst (λ (P : Fault → Type 0). P g) (ap (FirstHas k) split ∙ feed_follows k line after more)
    (first_has purpose text left n k read g applies)

-- ---- one line more

more_faultless : (purpose : Purpose) (text : List ℕ) (left : List Line) (line : Line) (after : List Line)
    (n : ℕ) (k new : Known)
    → IsReadTo purpose text left n k → left ≡ line ∷ after → 0 < length after
    → Takes k line new → (j : ℕ) (g : Fault) → j < n + 1 → Applies purpose text j g → ⊥
more_faultless purpose text left line after n k new read split more takes j g lt applies =
    elim (cases_lt j n) [
      | inl less ↦ read.faultless j g less applies
      | inr ge ↦
          let at : j ≡ n = omega arith in
          line_faultless k line takes.statement
          (takes.printable, takes.not_ended) takes.says takes.enters.fit g
          (line_has purpose text left line after n k read split more g (subst
          (λ i. Applies purpose text i g) at applies))
    ]

-- a line that is taken fits after the lines before it
taken_fits : (k new : Known) (line : Line) → (takes : Takes k line new)
    → IsFitLine k line takes.statement
taken_fits k new line takes = grind arith

pub read_more : (purpose : Purpose) (text : List ℕ) (left : List Line) (line : Line) (after : List Line)
    (n : ℕ) (k new : Known)
    → IsReadTo purpose text left n k → left ≡ line ∷ after → 0 < length after
    → Takes k line new → IsReadTo purpose text after (n + 1) new
read_more purpose text left line after n k new read split more takes =
    let cut : drop n (lines_of text) ≡ line ∷ after = sym read.rest ∙ split in
    let s = takes.statement in
    let here : names_after (known_at purpose []) read.before ≡ k =
    known_after purpose read.before ∙ sym read.known in
    record {
      before = read.before ++ s ∷ [];
      count = omega (arith, length-append read.before (s ∷ []), read.count);
      says = rw (take_one n (lines_of text) after line cut) (declare-step _ _ line s read.says takes.says);
      fit = grind (arith, take_one, fit-step, taken_fits);
      rest = sym (drop_one n (lines_of text) after line cut);
      known = takes.enters.known ∙ ap (λ old. entered old s) read.known
          ∙ sym (known_at-step purpose read.before s);
      faultless = more_faultless purpose text left line after n k new read split more takes;
    }

-- ---- a fault

-- the least fault of the line that is left first is the text's
least_first : (purpose : Purpose) (text : List ℕ) (left : List Line) (n : ℕ) (k : Known) (f : Fault)
    → length text ≤ longest text → IsReadTo purpose text left n k → IsLeastOf (FirstHas k left) f
    → IsLeastAt purpose text n f
least_first purpose text left n k f short read least = record {
  short = short;
  applies = (
    read.before,
    read.says,
    subst (λ q. FirstHas q (drop n (lines_of text)) f) read.known (subst
        (λ ls. FirstHas k ls f) read.rest least.applies),
  );
  least = λ j g h. elim (cases_lt n j) [
    | inl later ↦ inl later
    | inr ge ↦ elim (cases_eq j n) [
      | inl at ↦ inr (
        sym at,
        least.least g (first_has purpose text left n k read g (subst
            (λ i. Applies purpose text i g) at h)),
      )
      | inr apart ↦ absurd (read.faultless j g (omega arith) h)
    ]
  ];
}

pub least_at : (purpose : Purpose) (text : List ℕ) (left : List Line) (line : Line) (after : List Line)
    (n : ℕ) (k : Known)
    (f : Fault) → length text ≤ longest text → IsReadTo purpose text left n k → left ≡ line ∷ after
    → 0 < length after
    → IsLeastOf (LineHas k line) f → IsLeastAt purpose text n f
least_at purpose text left line after n k f short read split more least =
    least_first purpose text left n k f short read
    (subst (λ P. IsLeastOf P f) (sym (ap (FirstHas k) split ∙ feed_follows k line after more)) least)

pub least_at_rest : (purpose : Purpose) (text : List ℕ) (left : List Line) (line : Line) (n : ℕ) (k : Known)
    (f : Fault) → length text ≤ longest text → IsReadTo purpose text left n k → left ≡ line ∷ []
    → IsLeastOf (RestHas k line) f
    → IsLeastAt purpose text n f
least_at_rest purpose text left line n k f short read split least =
    least_first purpose text left n k f short read
    (subst (λ P. IsLeastOf P f) (sym (ap (FirstHas k) split)) least)

-- no line is too long: a text is
never_too_long : (k : Known) (ls : List Line) → FirstHas k ls TooLong → ⊥
never_too_long k [] h = h
never_too_long k ([] ∷ []) h = h
never_too_long k ((b ∷ bs) ∷ []) h = h
never_too_long k (line ∷ next ∷ more) h = h

pub least_fault : (purpose : Purpose) (text : List ℕ) (n : ℕ) (f : Fault) → IsLeastAt purpose text n f
    → IsLeastFault purpose text (n + 1) f
least_fault purpose text n TooLong h =
    absurd (never_too_long (known_at purpose h.applies.0) (drop n (lines_of text)) h.applies.2)
least_fault purpose text n f h = (n, refl, h)

pub error_of_text : (purpose : Purpose) (text : List ℕ) (left : List Line) (line : Line)
    (after : List Line) (n : ℕ) (k : Known)
    (err : LineError) → length text ≤ longest text → IsReadTo purpose text left n k → left ≡ line ∷ after
    → 0 < length after → IsLeastError (LineHas k line) err
    → IsReadingError purpose text (error_at (n + 1) err)
error_of_text purpose text left line after n k (error.Fault f) short read split more least =
    least_fault purpose text n f (least_at purpose text left line after n k f short read split more least)
error_of_text purpose text left line after n k error.Memory short read split more least = short

-- ---- the end

rest_faultless : (k : Known) (f : Fault) → k.section ≡ Ended → FirstHas k ([] ∷ []) f → ⊥
rest_faultless k Misplaced ended h = h ended
rest_faultless k f ended h = h

lines_read : (purpose : Purpose) (text : List ℕ) (n : ℕ) (k : Known) → IsReadTo purpose text ([] ∷ []) n k
    → length (lines_of text) ≡ n + 1
lines_read purpose text n k read = omega (arith, ap length read.rest, length-drop n (lines_of text))

all_faultless : (purpose : Purpose) (text : List ℕ) (n : ℕ) (k : Known) → IsReadTo purpose text ([] ∷ []) n k
    → k.section ≡ Ended → (i : ℕ) (f : Fault) → Applies purpose text i f → ⊥
all_faultless purpose text n k read ended i f applies =
    elim (cases_lt i n) [
      | inl less ↦ read.faultless i f less applies
      | inr ge ↦ elim (cases_eq i n) [
        | inl at ↦ rest_faultless k f ended
            (first_has purpose text ([] ∷ []) n k read f (subst (λ j. Applies purpose text j f) at applies))
        | inr apart ↦
            let total = lines_read purpose text n k read in
            let gone : drop i (lines_of text)
            ≡ [] = drop_of_length-le (lines_of text) {i = i} (omega arith) in
            subst (λ ls. FirstHas (known_at purpose applies.0) ls f) gone applies.2
      ]
    ]

all_read : (purpose : Purpose) (text : List ℕ) (n : ℕ) (k : Known) → length text ≤ longest text
    → IsReadTo purpose text ([] ∷ []) n k → k.section ≡ Ended → IsAllRead purpose text k
all_read purpose text n k short read ended = record {
  statements = read.before;
  reads = record {
    faultless = record { short = short; none = all_faultless purpose text n k read ended };
    says = rw read.count read.says;
    whole = rw read.count (lines_read purpose text n k read);
  };
  fit = rw read.count read.fit;
  known = read.known;
}

pub reads_all : (purpose : Purpose) (text : List ℕ) (left : List Line) (n : ℕ) (k : Known)
    → length text ≤ longest text
    → IsReadTo purpose text left n k → left ≡ [] ∷ [] → k.section ≡ Ended → IsAllRead purpose text k
reads_all purpose text left n k short read empty ended =
    all_read purpose text n k short (subst (λ ls. IsReadTo purpose text ls n k) empty read) ended
