-- The script that a text declares is one for the head that it makes.
use Rattle.std.proofs.Common.{ℕ, List, [], ◌≡◌, ◌≤◌, ◌<◌, ◌∙◌, ap, arith, get_or, length, subst, sym}
use Rattle.std.specs.List.{All}
use Rattle.std.specs.Str.{bytes_eq}
use Rattle.std.proofs.lemmas.List.{length-map}
use Rattle.std.proofs.lemmas.List.Quantifiers.{position-Some}
use Rattle.text_lines.specs.Texts.{Word}
use Rattle.line_shapes.specs.Lines.{IsInRange, Statement}
use Rattle.line_shapes.specs.declared.keyword.Keyword.{Keyword}
use Rattle.line_shapes.specs.declared.keyword.Keyword.TheVariants.{Ahead, Busy, End, Split, Target, Worker}
use Rattle.line_rules.specs.Entering.{follow_of, most_workers}
use Rattle.line_rules.specs.Known.{rows_of}
use Rattle.line_rules.specs.declared.edition.Version.TheVariants.{Three}
use Rattle.line_rules.specs.declared.purpose.Purpose.{Purpose}
use Rattle.plan_text.specs.Names.{names_of, nth_word}
use Rattle.plan_text.specs.Value.{declared_split}
use Rattle.plan_text.proofs.Tidy.{tidy-read}
use Rattle.script_text.specs.Heads.{slots_told}
use Rattle.script_text.proofs.Lines.{target_within, told_within}
use Rattle.script_text.proofs.Read.{IsOfJob, few-read, fit_master-read}
use Rattle.script_text.specs.Commands.{AreTold, IsKnownIn, IsNumbered, SaysCommand}
use Rattle.script_text.specs.Scripts.{IsOfHead, IsScriptOf, IsTarget}
use Rattle.script_text.specs.declared.script.Command.{Command}
use Rattle.script_text.specs.declared.script.Command.TheVariants as command
use Rattle.script_text.specs.declared.script.Names.{Names}
use Rattle.script_text.specs.declared.script.ScriptText.{ScriptText}
use Rattle.script_text.proofs.Bounds.{IsShort, bounded-read, workers_in}

below : (names : List Word) (name : Word) (n : ℕ) → IsNumbered names name n → n < length names
below names name n is = (position-Some (λ m. bytes_eq name m) names n name is).0

-- the numbers of places are within the range of their words
places_within : (s : Statement) → IsInRange s → s.keyword ≡ Ahead → (places : List ℕ)
    → AreTold s.words places → All (λ n. n ≤ 255) places
places_within s within is places told i d lt =
    let in_range = subst (λ (j : Keyword). IsInRange (record { keyword = j; words = s.words })) is within in
    let word = in_range i (omega (arith, told.many, lt)) in
    let number = told.each i d lt in
    omega (arith, word.2, number.1)

-- the command that a line says is known
pub is_known : (names : Names) (s : Statement) (c : Command) → IsShort 32768 s → IsInRange s
    → SaysCommand names s c → IsKnownIn (length names.workers) (length names.splits) c
is_known names s (command.Ahead places) short within says =
    (omega (arith, says.1.many, short (ap follow_of says.0)), places_within s within says.0 places.items says.1)
is_known names s (command.Backup split worker) short within says =
    (below names.splits _ split says.1.0, below names.workers _ worker says.1.1)
is_known names s (command.Die worker) short within says = below names.workers _ worker says.1
is_known names s (command.Join worker splits) short within says = grind arith
is_known names s (command.Add split worker) short within says =
    (below names.splits _ split says.1.0, below names.workers _ worker says.1.1)
is_known names s (command.Lose split worker) short within says =
    (below names.splits _ split says.1.0, below names.workers _ worker says.1.1)
is_known names s (command.Sweep counts) short within says =
    omega (arith, says.1.many, short (ap follow_of says.0))
is_known names s c short within says = tt

module _ (purpose : Purpose) (text : List ℕ) (value : ScriptText) (job : IsOfJob purpose)
    (is : IsScriptOf purpose text value) where
  abbrev rows : List Statement
  rows = is.known.rows

  slots_size : length value.head.slots.items ≡ length (rows_of Worker rows)
  slots_size = ap length is.head.slots ∙ length-map (rows_of Worker rows) slots_told

  workers_size : length value.script.names.workers ≡ length value.head.slots.items
  workers_size =
      ap length is.declares.names.workers ∙ length-map (rows_of Worker rows) (nth_word 0) ∙ sym slots_size

  splits_size : length value.script.names.splits ≡ length value.head.splits.items
  splits_size =
      ap length is.declares.names.splits ∙ length-map (rows_of Split rows) (nth_word 0)
      ∙ sym (ap length is.head.splits
      ∙ length-map (rows_of Split rows) (declared_split (names_of Worker rows) (names_of Busy rows)))

  known : All (IsKnownIn (length value.script.names.workers) (length value.script.names.splits))
      value.script.commands.items
  known i d lt =
      let few = (fit_master-read purpose text is.known job is.read).few_workers in
      let bounded = bounded-read 32768 purpose text is.known few is.read in
      let nowhere : Statement = record { keyword = End; words = [] } in
      let says = is.declares.commands in
      let there : i < length is.known.commands = omega (arith, says.many, lt) in
      is_known value.script.names (get_or is.known.commands i nowhere)
      (get_or value.script.commands.items i d) (bounded.short i nowhere there)
      (bounded.tidy i nowhere there).tidy.in_range (says.each i nowhere d lt)

  pub is_of_head : IsOfHead value.head value.script
  is_of_head = record {
    workers = workers_size;
    splits = splits_size;
    known =
        let commands = value.script.commands.items in
        subst (λ n. All (IsKnownIn n (length value.head.splits.items)) commands) workers_size
        (subst (λ n. All (IsKnownIn (length value.script.names.workers) n) commands) splits_size known);
    few =
        let all = bounded-read (workers_in is.known) purpose text is.known (omega arith) is.read in
        omega (arith, is.declares.commands.many, all.few);
  }

  pub is_target : IsTarget value.script.target
  is_target =
      let within = target_within rows (tidy-read purpose text is.known is.read) in
      let told = told_within 1 8 3 (rows_of Target rows) within (omega arith) (omega arith) in
      record {
        some = omega (arith, is.declares.target, told.0);
        few = omega (arith, is.declares.target, told.1);
      }

  pub few_workers : length value.head.slots.items ≤ most_workers Three purpose
  few_workers =
      let few : length (rows_of Worker rows) ≤ most_workers Three purpose =
      few-read purpose text is.known is.read Worker in
      omega (arith, slots_size, few)
