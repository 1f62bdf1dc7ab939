-- Commands of a text without a fault are not too many, none gives more counts than there may be workers, and
-- the words of each keep to their places in view of all rows.
use Rattle.std.proofs.Common.{ℕ, List, [], ◌∷◌, ◌++◌, ◌≡◌, ◌≤◌, ◌<◌, ◌∙◌, Option, Some, append-nil, arith}
use Rattle.std.proofs.Common.{length, length-append, length-drop, refl, subst, sym}
use Rattle.std.specs.List.{All}
use Rattle.std.proofs.lemmas.List.{length_push}
use Rattle.std.proofs.lemmas.List.Elements.{All-append, All-cons, All-nil, All-weaker, filter-append}
use Rattle.text_lines.specs.Texts.{Line}
use Rattle.line_shapes.specs.Lines.{Statement, tail_words}
use Rattle.line_shapes.specs.Places.{places_of}
use Rattle.line_shapes.specs.declared.keyword.Keyword.{Keyword}
use Rattle.line_shapes.specs.declared.keyword.Keyword.TheVariants as keyword
use Rattle.line_rules.specs.Entering.{command_of, entered_of, entering_of, follow_of, in_turn, most_commands}
use Rattle.line_rules.specs.Entering.{most_of}
use Rattle.line_rules.specs.Faults.{IsFewer, IsFit, MayFollow, counted_by}
use Rattle.line_rules.specs.Known.{Known, entered, rows_of}
use Rattle.line_rules.specs.Reading.{AreFitLines, IsAllRead}
use Rattle.line_rules.specs.declared.entering.Entering.{Entering}
use Rattle.line_rules.specs.declared.entering.Entering.TheVariants.{InTurn}
use Rattle.line_rules.specs.declared.entering.Follow.{Follow}
use Rattle.line_rules.specs.declared.entering.Follow.TheVariants.{Counts}
use Rattle.line_rules.specs.declared.edition.Version.{Version}
use Rattle.line_rules.specs.declared.edition.Version.TheVariants.{One, Two, Three}
use Rattle.line_rules.specs.declared.purpose.Purpose.{Purpose}
use Rattle.line_rules.proofs.FitLines.{known_after, names_after}
use Rattle.plan_text.specs.Tidy.{IsTidyRow}
use Rattle.plan_text.proofs.Tidy.{tidy-more, tidy_of}

-- a line of a number for each worker has no more of them than this
abbrev pub IsShort : ℕ → Statement → Type 0
IsShort n s = follow_of s.keyword ≡ Counts → length s.words ≤ n

-- it is a command, and tidy as a row is
pub record IsTidyCommand (rows : List Statement) (s : Statement) : Type 0 where
  pub in_turn : entering_of s.keyword ≡ InTurn
  pub tidy : IsTidyRow rows s

pub record AreBounded (n : ℕ) (rows commands : List Statement) : Type 0 where
  pub few : length commands ≤ 1048576
  pub short : All (IsShort n) commands
  pub tidy : All (IsTidyCommand rows) commands

most_of_command : (version : Version) (purpose : Purpose) (k : Keyword) → entering_of k ≡ InTurn
    → most_of version purpose k ≡ Some (most_commands version)
most_of_command version purpose keyword.Problem is = cc
most_of_command version purpose k is = cc

most-newest : (version : Version) → most_commands version ≤ 1048576
most-newest One = omega arith
most-newest Two = omega arith
most-newest Three = omega arith

abbrev pub workers_in : Known → ℕ
workers_in k = length (rows_of keyword.Worker k.rows)

no_places : (k : Keyword) → follow_of k ≡ Counts → length (places_of k) ≡ 0
no_places keyword.Ahead is = refl
no_places k is = cc

-- a fit line of a number for each worker has as many words as there are workers
pub one_for_each : (k : Known) (s : Statement) → IsFit k s → follow_of s.keyword ≡ Counts
    → length s.words ≡ workers_in k
one_for_each k s fit is =
    let whole : length (tail_words s) ≡ workers_in k =
    subst (λ (f : Follow). MayFollow f k (length (tail_words s))) is fit.whole in
    omega (arith, whole, length-drop (length (places_of s.keyword)) s.words, no_places s.keyword is)

workers_grow : (k : Known) (ss : List Statement) → workers_in k ≤ workers_in (names_after k ss)
workers_grow k [] = omega arith
workers_grow k (s ∷ ss) = grind (arith, workers_grow (entered k s) ss, filter-append, length-append)

module _ (n : ℕ) (k : Known) (s : Statement) (whole : length (places_of s.keyword) ≤ length s.words)
    (fit : IsFit k s) (few : workers_in k ≤ n) (bounded : AreBounded n k.rows k.commands) where
  abbrev rows : List Statement
  rows = k.rows ++ entered_of s

  tidier : (t : Statement) → IsTidyCommand k.rows t → IsTidyCommand rows t
  tidier t h = record { in_turn = h.in_turn; tidy = tidy-more k.rows (entered_of s) t h.tidy }

  before : All (IsTidyCommand rows) k.commands
  before = All-weaker (IsTidyCommand k.rows) (IsTidyCommand rows) tidier k.commands bounded.tidy

  none : AreBounded n rows (k.commands ++ [])
  none = subst (AreBounded n rows) (sym (append-nil k.commands))
      (record { few = bounded.few; short = bounded.short; tidy = before })

  short : IsShort n s
  short is = omega (arith, one_for_each k s fit is, few)

  command : entering_of s.keyword ≡ InTurn → IsTidyCommand k.rows s
  command is = record { in_turn = is; tidy = tidy_of k s whole fit }

  one : entering_of s.keyword ≡ InTurn → AreBounded n rows (k.commands ++ s ∷ [])
  one is =
      let Room : Entering → Type 0 = λ e. IsFewer (most_of k.version k.purpose s.keyword)
      (counted_by e k s.keyword) in
      let counted = subst Room is fit.within_limit.room in
      let room : length k.commands < most_commands k.version =
      subst (λ (m : Option ℕ). IsFewer m (length k.commands))
      (most_of_command k.version k.purpose s.keyword is)
      counted in
      record {
        few = omega (arith, room, most-newest k.version, length_push k.commands s);
        short = All-append (IsShort n) k.commands (s ∷ []) bounded.short
            (All-cons (IsShort n) s [] short (All-nil (IsShort n)));
        tidy = All-append (IsTidyCommand rows) k.commands (s ∷ []) before
            (All-cons (IsTidyCommand rows) s [] (tidier s (command is)) (All-nil (IsTidyCommand rows)));
      }

  by : (e : Entering) → entering_of s.keyword ≡ e → AreBounded n rows (k.commands ++ in_turn e s)
  by InTurn is = one is
  by e is = none

  bounded_more : AreBounded n rows (k.commands ++ command_of s)
  bounded_more = by (entering_of s.keyword) refl

bounded_after : (n : ℕ) (k : Known) (ls : List Line) (ss : List Statement) → AreFitLines k ls ss
    → workers_in (names_after k ss) ≤ n → AreBounded n k.rows k.commands
    → AreBounded n (names_after k ss).rows (names_after k ss).commands
bounded_after n k [] [] fits few bounded = bounded
bounded_after n k (l ∷ ls) (s ∷ ss) fits few bounded =
    bounded_after n (entered k s) ls ss fits.1 few
    (bounded_more n k s fits.0.says.many fits.0.fit (omega (arith, few, workers_grow k (s ∷ ss))) bounded)
bounded_after n k ls ss fits few bounded = absurd fits

-- the commands of a text with at most so many workers
pub bounded-read : (n : ℕ) (purpose : Purpose) (text : List ℕ) (k : Known) → workers_in k ≤ n
    → IsAllRead purpose text k → AreBounded n k.rows k.commands
bounded-read n purpose text k few read =
    let same = known_after purpose read.statements ∙ sym read.known in
    grind (arith, bounded_after, All-nil)
