-- What clap finds in words that have no fault: one of the commands, and its options.
use Rattle.std.proofs.Common.{◌≡◌, ◌∙◌, ℕ, cond, inl, inr, subst, Bool, true, false, List, [], ◌∷◌, Option}
use Rattle.std.proofs.Common.{Some, None, codes, option_map, refl, sym, ap, true≢false}
use Rattle.std.specs.Box.{box_value}
use Rattle.std.specs.Prelude.{Box, IfSome, ◌||◌, ◌++◌, find, is_some, length, map, option_and_then, take}
use Rattle.std.specs.Str.{bytes_eq}
use Rattle.std.proofs.lemmas.Slice.Eq.{bytes_eq-Decides}
use Rattle.clap.specs.Faults.{check_fault, defaults_fault, entered_fault, fault_of, is_simple_and_free}
use Rattle.clap.specs.Faults.{settle_fault, walk_fault}
use Rattle.clap.specs.Simple.{HasMatchesOf, Shape, label_of, app_of, argument_words, built, built_leaf}
use Rattle.clap.specs.Simple.{help_shape, entered, is_simple, names_of, rows_at, subcommand_of}
use Rattle.clap.specs.Simple.{subcommand_rows, subcommand_rows_of}
use Rattle.clap.specs.Walk.{Row, Text, answers_to, finished, nothing_held, first_of, rows_of, settled, walk}
use Rattle.clap.specs.Walk.{walk_from}
use Rattle.clap.specs.declared.error.kind.ErrorKind.TheVariants.{MissingSubcommand, OutOfMemory}
use Rattle.clap.specs.Kinds.{HasKind, IsAmong}
use Rattle.clap.specs.Matches.{first_value, found_of, subcommand_name_of}
use Rattle.clap.specs.Words.{kind_of}
use Rattle.clap.specs.declared.builder.command.Command.{Command}
use Rattle.clap.specs.declared.error.Error.{Error}
use Rattle.clap.specs.declared.parser.matches.ArgMatches.{ArgMatches}
use Rattle.clap.specs.declared.parser.matches.ArgMatches.TheViews.{out-ArgMatches, out-SubCommand}
use Rattle.clap.specs.declared.parser.matches.SubCommand.{SubCommand}
use Rattle.clap.proofs.OnLiterals.{clap_on_literals}
use Rattle.command_line.specs.Commands.{IsOneOf, command_in, faults_in, mrjob, value_in}
use Rattle.clap.proofs.WalkLemmas.{first_value-rows}
use Rattle.command_line.proofs.Subcommands.{IsOther, never_help, no_fault}

is_simple_program : is_simple mrjob ≡ true
unfolding clap_on_literals
is_simple_program = refl

is_free_program : is_simple_and_free mrjob ≡ true
unfolding clap_on_literals
is_free_program = refl

same_from_other : (a b : List ℕ) → bytes_eq a b ≡ false → bytes_eq b a ≡ false
same_from_other a b other = go (bytes_eq b a) (bytes_eq-Decides b a).0
  where
    go : (r : Bool) → (r ≡ true → b ≡ a) → r ≡ false
    go true same = absurd (true≢false (sym ((bytes_eq-Decides a b).1 (sym (same refl))) ∙ other))
    go false same = refl

-- the subcommand that is entered, where one is found
abbrev entered_of : List Text → Option Shape → Option (Text × List Row)
entered_of words = option_map (λ s. rows_at s words)

module _ (word : Text) (words : List Text) where
  abbrev found_in_shapes : List Shape → Option Shape
  found_in_shapes = find (λ s. answers_to word (label_of s))

  abbrev IsEntered : Option Shape → Type 0
  IsEntered found = is_some (entered_of words found) ≡ true

  abbrev IsNamed : Option Shape → List Shape → Type 0
  IsNamed found shapes =
      IsOneOf (option_map (λ p. p.0) (entered_of words found)) (map (λ s. s.name) shapes)

  named_first : (first : Shape) (shapes : List Shape) (found : Option Shape) (is_first : Bool)
      → IsEntered (cond is_first (Some first) found) → (IsEntered found → IsNamed found shapes)
      → IsNamed (cond is_first (Some first) found) (first ∷ shapes)
  named_first first shapes found true entered below = inl refl
  named_first first shapes found false entered below = inr (below entered)

  -- a search that finds a shape, and not the last one, finds one before it
  named_before : (shapes : List Shape) (last : Shape) → answers_to word (label_of last) ≡ false
      → IsEntered (found_in_shapes (shapes ++ last ∷ []))
      → IsNamed (found_in_shapes (shapes ++ last ∷ [])) shapes
  named_before [] last other entered =
      let none : false ≡ true = rw other at entered in
      cc
  named_before (first ∷ shapes) last other entered =
      named_first first shapes _ (answers_to word (label_of first)) entered (named_before shapes last other)

-- the commands as they are built; clap puts `help` after them
abbrev commands : List Shape
commands = take (length mrjob.subs) (built mrjob).subs

-- a walk that stopped at a subcommand, and not at `help`, has stopped at a command
named : (stop : Option (Text × List Text)) → is_some (entered (built mrjob) stop) ≡ true
    → IfSome stop (λ p. IsOther p.0)
    → IsOneOf (option_map (λ p. p.0) (entered (built mrjob) stop)) (map (λ s. s.name) mrjob.subs)
named None some other = cc
named (Some p) some other =
    named_before p.0 p.1 commands (built_leaf help_shape)
    (ap (λ b. b || false) (same_from_other p.0 (codes "help") other)) some

-- the last checks pass only where a subcommand was met
has_command : (rows : List Row) (has : Bool) → check_fault (built mrjob).top rows has ≡ [] → has ≡ true
has_command rows true none = refl
has_command rows false none = let wanted : MissingSubcommand ∷ [] ≡ [] = none in cc

command_named : (words : List Text) → faults_in words ≡ []
    → IsOneOf (command_in words) (map (λ s. s.name) mrjob.subs)
command_named words none =
    let program = built mrjob in
    let given = argument_words mrjob words in
    let end = walk program.top.rules (names_of program) nothing_held given in
    let first = no_fault (walk_fault program.top (names_of program) (walk_from nothing_held) given) _ none in
    let below = no_fault (entered_fault program end.stopped) _ first.1 in
    let last = no_fault (settle_fault program.top.rules program.top.args_override_self end.held) _ below.1 in
    let rows = (settled program.top.rules end.held).rows in
    let checks = no_fault (defaults_fault rows program.top.rules) _ last.1 in
    named end.stopped
    (has_command (finished program.top.rules end.held) _ checks.1)
    (never_help program.top (names_of program) refl (walk_from nothing_held) given first.0)

name_in : {Z : Type 0} (met : Option (Box SubCommand Z))
    → option_map (λ b. (out-SubCommand (box_value b)).name.now) met
    ≡ option_map (λ p. p.0) (subcommand_rows met)
name_in None = refl
name_in (Some b) = refl

module _ (program : Command) (words : List Text) (is : app_of program ≡ mrjob) where
  -- the matches name the command that the words name
  found_in : (m : ArgMatches) → HasMatchesOf (app_of program) words m
      → subcommand_name_of m ≡ command_in words
  found_in m has =
      let rows : subcommand_rows_of m ≡ subcommand_of mrjob words =
      (has (ap is_simple is ∙ is_simple_program)).1 ∙ ap (λ a. subcommand_of a words) is in
      name_in (out-ArgMatches m).subcommand ∙ ap (option_map (λ p. p.0)) rows

  pub named_in : (m : ArgMatches) → HasMatchesOf (app_of program) words m
      → (met name : Text) → Some met ≡ subcommand_name_of m → met ≡ name → command_in words ≡ Some name
  named_in m has met name met_is same = sym (found_in m has) ∙ sym met_is ∙ ap Some same

  -- words that are parsed have no fault
  pub unfaulted : (is_simple_and_free (app_of program) ≡ true → fault_of (app_of program) words ≡ [])
      → faults_in words ≡ []
  unfaulted none = sym (ap (λ a. fault_of a words) is) ∙ none (ap is_simple_and_free is ∙ is_free_program)

  -- they name one of the commands
  pub found_named : (m : ArgMatches) → HasMatchesOf (app_of program) words m
      → (is_simple_and_free (app_of program) ≡ true → fault_of (app_of program) words ≡ [])
      → IsOneOf (subcommand_name_of m) (map (λ s. s.name) mrjob.subs)
  found_named m has none = subst (λ name. IsOneOf name (map (λ s. s.name) mrjob.subs))
      (sym (found_in m has)) (command_named words (unfaulted none))

  -- what its matches hold for an option is what clap finds in the words
  pub found_value : (m : ArgMatches) → HasMatchesOf (app_of program) words m → (options : ArgMatches)
      → Some (rows_of (found_of options)) ≡ option_map (λ p. p.1) (subcommand_rows_of m)
      → (id : Text) → first_value (found_of options) id ≡ value_in id words
  found_value m has options rows_is id =
      let rows : subcommand_rows_of m ≡ subcommand_of mrjob words =
      (has (ap is_simple is ∙ is_simple_program)).1 ∙ ap (λ a. subcommand_of a words) is in
      first_value-rows (found_of options) id ∙ in_rows (subcommand_of mrjob words)
      (rows_is ∙ ap (option_map (λ p. p.1)) rows)
    where
      in_rows : (o : Option (Text × List Row)) → Some (rows_of (found_of options)) ≡ option_map (λ p. p.1) o
          → first_of id (rows_of (found_of options)) ≡ option_and_then (λ p. first_of id p.1) o
      in_rows None same = cc
      in_rows (Some p) same = ap (λ o. option_and_then (first_of id) o) same

  -- an error is one of the words' faults, or memory
  pub faulted : (e : Error)
      → (is_simple_and_free (app_of program) ≡ true → HasKind (fault_of (app_of program) words) e)
      → (kind_of e ≡ OutOfMemory → ⊥) → IsAmong (kind_of e) (faults_in words)
  faulted e kinds other = elim (kinds (ap is_simple_and_free is ∙ is_free_program)) [
    | inl memory ↦ absurd (other memory)
    | inr among ↦ subst (λ a. IsAmong (kind_of e) (fault_of a words)) is among
  ]
