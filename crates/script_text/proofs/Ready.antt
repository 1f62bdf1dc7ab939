-- A command of a text without a fault has its words, by the names that the rows declare.
use Rattle.std.proofs.Common.{ℕ, List, ◌≡◌, ◌≤◌, ◌<◌, zero, suc, arith, get_or, length, refl}
use Rattle.std.specs.List.{All}
use Rattle.text_lines.specs.Texts.{Word}
use Rattle.line_shapes.specs.Demands.{IsNumberWithin}
use Rattle.line_shapes.specs.Lines.{IsInRange, Statement}
use Rattle.line_shapes.specs.declared.keyword.Keyword.{Keyword}
use Rattle.line_shapes.specs.declared.keyword.Keyword.TheVariants as keyword
use Rattle.line_rules.specs.Entering.{entering_of}
use Rattle.line_rules.specs.Faults.{Keep}
use Rattle.line_rules.specs.Known.{HasRow, Known}
use Rattle.line_rules.specs.Reading.{IsAllRead}
use Rattle.line_rules.specs.declared.entering.Entering.TheVariants.{InTurn, Word as ByWord}
use Rattle.line_rules.specs.declared.purpose.Purpose.{Purpose}
use Rattle.line_rules.specs.declared.rule.Rule.TheVariants as rule
use Rattle.plan_text.specs.Names.{names_of}
use Rattle.plan_text.specs.Tidy.{IsTidyRow}
use Rattle.plan_text.proofs.Named.{row_named}
use Rattle.plan_text.proofs.Words.{line}
use Rattle.script_text.specs.Commands.{word_at}
use Rattle.script_text.specs.Ready.{HasName, HasNumber, HasWords, HaveNames, HavePair, IsWholeCommand}
use Rattle.script_text.specs.Ready.{told_names}
use Rattle.script_text.proofs.Bounds.{bounded-read, workers_in}

-- ---- the words of each shape

has_name : (k : Keyword) → entering_of k ≡ ByWord → (rows : List Statement) (ws : List Word) (i : ℕ)
    → i < length ws → HasRow rows k (word_at ws i) → HasName (names_of k rows) ws i
has_name k by rows ws i lt row = record { inside = lt; known = row_named k by rows (word_at ws i) row }

has_number : (most : ℕ) (ws : List Word) (i : ℕ) → i < length ws → IsNumberWithin 0 most (word_at ws i)
    → HasNumber most ws i
has_number most ws i lt within = record { inside = lt; number = within.0; small = within.2 }

has_attempt : (ws : List Word) → 1 ≤ length ws → IsInRange (line keyword.Done ws) → HasNumber 1000000 ws 0
has_attempt ws whole within =
    let lt : 0 < length ws = omega (arith, whole) in has_number 1000000 ws 0 lt (within 0 lt)

module _ (rows : List Statement) (ws : List Word) where
  has_worker : 1 ≤ length ws → (0 < length ws → HasRow rows keyword.Worker (word_at ws 0))
      → HasName (names_of keyword.Worker rows) ws 0
  has_worker whole known =
      let lt : 0 < length ws = omega (arith, whole) in has_name keyword.Worker refl rows ws 0 lt (known lt)

  have_pair : 2 ≤ length ws → Keep rule.Declared rows (line keyword.Add ws) → HavePair (told_names rows) ws
  have_pair whole known =
      let first : 0 < length ws = omega (arith, whole) in
      let second : 1 < length ws = omega (arith, whole) in (
        has_name keyword.Split refl rows ws 0 first (known 0 first),
        has_name keyword.Worker refl rows ws 1 second (known 1 second),
      )

  have_splits : Keep rule.Declared rows (line keyword.Join ws) → HaveNames (names_of keyword.Split rows) ws 1
  have_splits known zero low lt = absurd (omega (arith, low))
  have_splits known (suc i) low lt = has_name keyword.Split refl rows ws (suc i) lt (known (suc i) lt)

-- ---- commands

pub has_words : (rows : List Statement) (k : Keyword) (ws : List Word) → entering_of k ≡ InTurn
    → IsTidyRow rows (line k ws) → HasWords (told_names rows) k ws
has_words rows keyword.Wave ws is row = tt
has_words rows keyword.Ahead ws is row = λ i lt. has_number 255 ws i lt (row.in_range i lt)
has_words rows keyword.Done ws is row = has_attempt ws row.whole row.in_range
has_words rows keyword.Fail ws is row = has_attempt ws row.whole row.in_range
has_words rows keyword.Withdraw ws is row = has_attempt ws row.whole row.in_range
has_words rows keyword.Die ws is row = has_worker rows ws row.whole (row.known 0)
has_words rows keyword.Join ws is row =
    (has_worker rows ws row.whole (row.known 0), have_splits rows ws row.known)
has_words rows keyword.Add ws is row = have_pair rows ws row.whole row.known
has_words rows keyword.Lose ws is row = have_pair rows ws row.whole row.known
has_words rows keyword.Sweep ws is row = λ i lt. has_number 1099511627776 ws i lt (row.in_range i lt)
has_words rows keyword.Reduce ws is row = tt
has_words rows keyword.Copies ws is row = tt
has_words rows keyword.Backup ws is row = have_pair rows ws row.whole row.known
has_words rows k ws is row = absurd cc

-- each command of a text that was read is ready
pub ready-read : (purpose : Purpose) (text : List ℕ) (k : Known) → IsAllRead purpose text k
    → All (IsWholeCommand (told_names k.rows)) k.commands
ready-read purpose text k read i d lt =
    let command = (bounded-read (workers_in k) purpose text k (omega arith) read).tidy i d lt in
    let s : Statement = get_or k.commands i d in
    has_words k.rows s.keyword s.words command.in_turn command.tidy

-- ---- names
