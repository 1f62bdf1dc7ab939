-- A line without a fault where commands stand is `end`, or a command with all its words.
use Rattle.std.proofs.Common.{◌≡◌, ◌≢◌, ◌≤◌, Some, arith, length, refl, subst}
use Rattle.text_lines.specs.Texts.{Line}
use Rattle.line_shapes.specs.Lines.{Statement}
use Rattle.line_shapes.specs.declared.keyword.Keyword.{Keyword}
use Rattle.line_shapes.specs.declared.keyword.Keyword.TheVariants as keyword
use Rattle.line_rules.specs.Entering.{entering_of}
use Rattle.line_rules.specs.Known.{Known, rows_of}
use Rattle.line_rules.specs.Reading.{IsFitLine}
use Rattle.line_rules.specs.Sections.{in_script, section_of}
use Rattle.line_rules.specs.declared.entering.Entering.TheVariants.{InTurn}
use Rattle.line_rules.specs.declared.purpose.Purpose.{Purpose}
use Rattle.line_rules.specs.declared.purpose.Purpose.TheVariants.{Playing}
use Rattle.line_rules.specs.declared.section.Section.{Section}
use Rattle.line_rules.specs.declared.section.Section.TheVariants.{Body}
use Rattle.plan_text.proofs.Tidy.{tidy_of}
use Rattle.script_text.specs.Commands.{IsKnownIn, SaysCommand}
use Rattle.script_text.specs.Ready.{IsWholeCommand, told_names}
use Rattle.script_text.specs.declared.script.Command.{Command}
use Rattle.script_text.specs.declared.script.Names.{Names}
use Rattle.script_text.proofs.Bounds.{IsShort, one_for_each}
use Rattle.script_text.proofs.OfHead.{is_known}
use Rattle.script_text.proofs.Ready.{has_words}

-- what stands in the body of a script, but for `end`
in_turn : (k : Keyword) → in_script k ≡ Some Body → k ≢ keyword.End → entering_of k ≡ InTurn
in_turn keyword.Wave is other = refl
in_turn keyword.Ahead is other = refl
in_turn keyword.Done is other = refl
in_turn keyword.Fail is other = refl
in_turn keyword.Withdraw is other = refl
in_turn keyword.Die is other = refl
in_turn keyword.Join is other = refl
in_turn keyword.Add is other = refl
in_turn keyword.Lose is other = refl
in_turn keyword.Sweep is other = refl
in_turn keyword.Reduce is other = refl
in_turn keyword.Copies is other = refl
in_turn keyword.Backup is other = refl
in_turn keyword.End is other = absurd (other refl)
in_turn k is other = absurd cc

module _ (k : Known) (line : Line) (s : Statement) (fit : IsFitLine k line s) (playing : k.purpose ≡ Playing)
    (body : k.section ≡ Body) where
  stands : in_script s.keyword ≡ Some Body
  stands = subst (λ (p : Purpose). section_of p s.keyword ≡ Some Body) playing
      (subst (λ (at : Section). section_of k.purpose s.keyword ≡ Some at) body fit.fit.may_stand.0)

  pub ready_line : s.keyword ≢ keyword.End → IsWholeCommand (told_names k.rows) s
  ready_line other =
      has_words k.rows s.keyword s.words (in_turn s.keyword stands other) (tidy_of k s fit.says.many fit.fit)

  short : length (rows_of keyword.Worker k.rows) ≤ 32768 → IsShort 32768 s
  short few is = omega (arith, one_for_each k s fit.fit is, few)

  -- the command that it says knows no others
  pub known_line : length (rows_of keyword.Worker k.rows) ≤ 32768 → (names : Names) (c : Command)
      → SaysCommand names s c → IsKnownIn (length names.workers) (length names.splits) c
  known_line few names c says = is_known names s c (short few) fit.fit.in_range.places says
