-- The commands of mrjob, what clap finds in the words, and when they have a fault.
use Rattle.std.specs.Prelude.{ℕ, ◌<◌, ◌≡◌, ◌⊎◌, ◌↔◌, IsSome, None, Bool, List, [], ◌∷◌, Option, Some, codes, false}
use Rattle.std.specs.Prelude.{true, Ok, option_and_then, option_map}
use Rattle.std.specs.Option.{option_map_or}
use Rattle.std.specs.Str.{bytes_eq}
use Rattle.std.specs.Str.Parse.{ParsesUnsigned}
use Rattle.clap.specs.Simple.{on_top}
use Rattle.clap.specs.declared.builder.action.ArgAction.TheVariants.{SetTrue}
use Rattle.clap.specs.Walk.{first_of}
use Rattle.clap.specs.Words.{App, Rule, Text, fault_of, kind_of, new_app, new_rule, subcommand_of, with_rule}
use Rattle.clap.specs.Words.{with_subcommand}
use Rattle.clap.specs.Kinds.{IsAmong, Kinds}
use Rattle.clap.specs.declared.error.kind.ErrorKind.{ErrorKind}
use Rattle.clap.specs.declared.error.kind.ErrorKind.TheVariants.{InvalidValue}
use Rattle.command_line.specs.declared.asked.Ask.{Ask}
use Rattle.command_line.specs.declared.asked.Ask.TheVariants.{Check, Explain, Plan, Play, Run, Serve}
use Rattle.command_line.specs.declared.asked.AskError.{AskError}
use Rattle.command_line.specs.declared.asked.AskError.TheVariants.{Fault, Memory}
use Rattle.explanations.specs.Table.{Row, row_named, row_of, table}
use Rattle.explanations.specs.declared.table.Entry.{Entry}
use Rattle.flow_network.specs.declared.NetworkKind.{NetworkKind}
use Rattle.flow_network.specs.declared.NetworkKind.TheVariants.{Direct, Racks}

-- a flag, as `--prices`, which takes no value
abbrev pub flag : Text → Rule
flag name = record (new_rule name) { long = Some name; action = Some SetTrue }

-- the word by which a network is asked for
abbrev pub word_of : NetworkKind → Text
word_of Direct = codes "direct"
word_of Racks = codes "racks"

-- a word that may stand after a command, in its place
abbrev pub word : Text → Rule
word name = record (new_rule name) { value_names = 1 }

-- an option, as `--ahead`, which takes a value
abbrev pub option : Text → Rule
option name = record (word name) { long = Some name }

-- the option `--network`; the network with racks where it is not given
abbrev pub network : Rule
network = record (option (codes "network")) { defaults = word_of Racks ∷ [] }

abbrev pub check : App
check = with_rule (new_app (codes "check")) (flag (codes "explain"))

abbrev pub plan : App
plan =
    with_rule (with_rule (with_rule (new_app (codes "plan")) (flag (codes "prices"))) network)
    (flag (codes "explain"))

abbrev pub play : App
play = with_rule (with_rule (new_app (codes "play")) (flag (codes "quiet"))) (flag (codes "explain"))

abbrev pub serve : App
serve = with_rule (new_app (codes "serve")) (flag (codes "no-audit"))

abbrev pub run : App
run =
    with_rule
    (with_rule (with_rule (with_rule (new_app (codes "run")) (option (codes "ahead"))) (flag (codes "history")))
    (flag (codes "quiet"))) (flag (codes "explain"))

abbrev pub explain : App
explain = with_rule (with_rule (new_app (codes "explain")) (word (codes "kind"))) (word (codes "name"))

-- the program before it has commands; one of them has to be named, and it has a version
abbrev pub program : App
program =
    on_top (λ s. record s { has_version = true; subcommand_required = true }) (new_app (codes "mrjob"))

-- the program with its commands, as clap is told of it
abbrev pub mrjob : App
mrjob =
    with_subcommand
    (with_subcommand
    (with_subcommand (with_subcommand (with_subcommand (with_subcommand program check.top) plan.top) play.top)
    serve.top) run.top) explain.top

-- the command that clap finds in the words
abbrev pub command_in : List Text → Option Text
command_in words = option_map (λ p. p.0) (subcommand_of mrjob words)

-- the text that clap finds for an option of that command
abbrev pub value_in : Text → List Text → Option Text
value_in id words = option_and_then (λ p. first_of id p.1) (subcommand_of mrjob words)

-- the text of a flag is `true` where it was given
abbrev pub is_set : Option Text → Bool
is_set value = option_map_or (λ text. bytes_eq text (codes "true")) value false

-- the text names no network
abbrev pub NamesNoNetwork : Option Text → Type 0
NamesNoNetwork value = (network : NetworkKind) → value ≡ Some (word_of network) → ⊥

-- the text says this number of waves, from 1 to 255
abbrev pub SaysWaves : Text → ℕ → Type 0
SaysWaves text n = ParsesUnsigned {E = Unit {0}} 8 10 text (Ok n) × (0 < n)

-- so many waves are planned ahead as the text says, none where there is no text
abbrev pub AsksAhead : Option Text → Option ℕ → Type 0
AsksAhead None waves = waves ≡ None
AsksAhead (Some text) None = ⊥
AsksAhead (Some text) (Some n) = SaysWaves text n

-- there is a text, and it says no number of waves
abbrev pub NamesNoWaves : Option Text → Type 0
NamesNoWaves None = ⊥
NamesNoWaves (Some text) = (n : ℕ) → SaysWaves text n → ⊥

-- the kinds of fault that clap finds in the words, a wish for help among them; none where it takes them
abbrev pub faults_in : List Text → Kinds
faults_in words = fault_of mrjob words

-- the word by which a command is called
abbrev pub command_word : Ask → Text
command_word (Check options) = codes "check"
command_word (Plan options) = codes "plan"
command_word (Play options) = codes "play"
command_word (Serve options) = codes "serve"
command_word (Run options) = codes "run"
command_word (Explain entry) = codes "explain"

-- the row of the table of which the words after `explain` ask: none of one, where there are none; a word
-- alone is the name of a condition
abbrev pub asked_row : Option Text → Option Text → Option Row
asked_row None name = None
asked_row (Some kind) None = row_named table (codes "condition") kind
asked_row (Some kind) (Some name) = row_named table kind name

-- all rows are asked for exactly where there is no word, else the one that the words name
abbrev pub AsksRow : Option Text → Option Text → Option Entry → Type 0
AsksRow kind name entry = (IsSome kind ↔ IsSome entry) × (option_map row_of entry ≡ asked_row kind name)

-- each option is as its text says, the texts given by the options' names
abbrev pub AsksBy : (Text → Option Text) → Ask → Type 0
AsksBy text (Check options) = options.explain ≡ is_set (text (codes "explain"))
AsksBy text (Plan options) = (options.prices ≡ is_set (text (codes "prices")))
    × (text (codes "network") ≡ Some (word_of options.network))
    × (options.explain ≡ is_set (text (codes "explain")))
AsksBy text (Play options) = (options.quiet ≡ is_set (text (codes "quiet")))
    × (options.explain ≡ is_set (text (codes "explain")))
AsksBy text (Serve options) = options.no_audit ≡ is_set (text (codes "no-audit"))
AsksBy text (Run options) = AsksAhead (text (codes "ahead")) options.ahead
    × (options.history ≡ is_set (text (codes "history")))
    × (options.quiet ≡ is_set (text (codes "quiet"))) × (options.explain ≡ is_set (text (codes "explain")))
AsksBy text (Explain entry) = AsksRow (text (codes "kind")) (text (codes "name")) entry

-- there is a word, and no row of it
abbrev pub NamesNoRow : Option Text → Option Text → Type 0
NamesNoRow kind name = IsSome kind × (asked_row kind name ≡ None)

-- the command of this name may have this option or word, which the texts by the options' names give a value
-- that it cannot take
abbrev pub IsRefusedBy : Option Text → (Text → Option Text) → Type 0
IsRefusedBy command text =
    ((command ≡ Some (codes "plan")) × NamesNoNetwork (text (codes "network")))
    ⊎ ((command ≡ Some (codes "run")) × NamesNoWaves (text (codes "ahead")))
    ⊎ ((command ≡ Some (codes "explain")) × NamesNoRow (text (codes "kind")) (text (codes "name")))

-- the words have a fault of this kind: one that clap finds, or a network that is none, or a number of waves
-- that is none, or words that are no row of the table
abbrev pub HasFault : List Text → ErrorKind → Type 0
HasFault words kind = IsAmong kind (faults_in words)
    ⊎ ((kind ≡ InvalidValue) × IsRefusedBy (command_in words) (λ id. value_in id words))

-- What follows serves private clauses alone.

-- the error says that a value is none, or that there was no memory to say it
abbrev pub RefusesValue : AskError → Type 0
RefusesValue (Fault error) = kind_of error ≡ InvalidValue
RefusesValue Memory = Unit {0}

-- the name is one of these
abbrev pub IsOneOf : Option Text → List Text → Type 0
IsOneOf found [] = ⊥
IsOneOf found (name ∷ names) = (found ≡ Some name) ⊎ IsOneOf found names
