-- What a line enters, and what it may not enter again.
use Rattle.std.specs.Prelude.{ℕ, List, [], ◌∷◌, Bool, true, false, Option, Some, None, slice_index_or}
use Rattle.text_lines.specs.Texts.{Word}
use Rattle.line_shapes.specs.Lines.{Statement}
use Rattle.line_shapes.specs.declared.keyword.Keyword.{Keyword}
use Rattle.line_shapes.specs.declared.keyword.Keyword.TheVariants as keyword
use Rattle.line_rules.specs.declared.entering.Entering.{Entering}
use Rattle.line_rules.specs.declared.entering.Entering.TheVariants.{Nothing, InTurn, Alone, Word as ByWord}
use Rattle.line_rules.specs.declared.entering.Entering.TheVariants.{Pair as ByPair}
use Rattle.line_rules.specs.declared.entering.Follow.{Follow}
use Rattle.line_rules.specs.declared.entering.Follow.TheVariants.{Any, Centre, Counts, Slots}
use Rattle.line_rules.specs.declared.purpose.Purpose.{Purpose}
use Rattle.line_rules.specs.declared.edition.Version.{Version}
use Rattle.line_rules.specs.declared.edition.Version.TheVariants.{One, Two, Three}
use Rattle.line_rules.specs.declared.purpose.Purpose.TheVariants.{Running}

-- by what a line is entered
abbrev pub entering_of : Keyword → Entering
entering_of keyword.Problem = Nothing
entering_of keyword.Script = Nothing
entering_of keyword.Job = Nothing
entering_of keyword.Centre = ByWord
entering_of keyword.Rack = ByWord
entering_of keyword.Worker = ByWord
entering_of keyword.Split = ByWord
entering_of keyword.Barred = ByPair
entering_of keyword.Dead = ByWord
entering_of keyword.Busy = ByWord
entering_of keyword.Places = ByWord
entering_of keyword.Parts = Alone
entering_of keyword.Target = Alone
entering_of keyword.Silence = Alone
entering_of keyword.Doc = ByWord
entering_of keyword.Plan = Nothing
entering_of keyword.Start = ByWord
entering_of keyword.Price = ByWord
entering_of keyword.Begin = Nothing
entering_of keyword.Wave = InTurn
entering_of keyword.Ahead = InTurn
entering_of keyword.Done = InTurn
entering_of keyword.Fail = InTurn
entering_of keyword.Withdraw = InTurn
entering_of keyword.Die = InTurn
entering_of keyword.Join = InTurn
entering_of keyword.Add = InTurn
entering_of keyword.Lose = InTurn
entering_of keyword.Sweep = InTurn
entering_of keyword.Reduce = InTurn
entering_of keyword.Copies = InTurn
entering_of keyword.Backup = InTurn
entering_of keyword.End = Nothing

-- the greater of two limits holds in version 3
abbrev pub newer_limit : Version → ℕ → ℕ → ℕ
newer_limit One less more = less
newer_limit Two less more = less
newer_limit Three less more = more

-- a job's cluster is smaller than another, since it runs on a thread for each worker
abbrev pub most_workers : Version → Purpose → ℕ
most_workers version Running = newer_limit version 32 1024
most_workers version purpose = newer_limit version 256 32768

abbrev pub most_splits : Version → ℕ
most_splits version = newer_limit version 1024 131072

-- how many documents a script or a job may have, and how many commands a script
abbrev pub most_documents : Version → ℕ
most_documents version = newer_limit version 65536 1048576

abbrev pub most_commands : Version → ℕ
most_commands version = newer_limit version 65536 1048576

-- how many lines of a keyword there may be; of commands, how many in all
abbrev pub most_of : Version → Purpose → Keyword → Option ℕ
most_of version purpose keyword.Centre = Some (newer_limit version 8 256)
most_of version purpose keyword.Rack = Some (newer_limit version 32 4096)
most_of version purpose keyword.Worker = Some (most_workers version purpose)
most_of version purpose keyword.Split = Some (most_splits version)
most_of version purpose keyword.Doc = Some (most_documents version)
most_of version purpose keyword.Wave = Some (most_commands version)
most_of version purpose keyword.Ahead = Some (most_commands version)
most_of version purpose keyword.Done = Some (most_commands version)
most_of version purpose keyword.Fail = Some (most_commands version)
most_of version purpose keyword.Withdraw = Some (most_commands version)
most_of version purpose keyword.Die = Some (most_commands version)
most_of version purpose keyword.Join = Some (most_commands version)
most_of version purpose keyword.Add = Some (most_commands version)
most_of version purpose keyword.Lose = Some (most_commands version)
most_of version purpose keyword.Sweep = Some (most_commands version)
most_of version purpose keyword.Reduce = Some (most_commands version)
most_of version purpose keyword.Copies = Some (most_commands version)
most_of version purpose keyword.Backup = Some (most_commands version)
most_of version purpose k = None

-- how many holders a split may have
abbrev pub most_holders : Version → ℕ
most_holders version = newer_limit version 8 16

-- and how many words may follow those in the places of a line
abbrev pub most_more_of : Version → Keyword → Option ℕ
most_more_of version keyword.Split = Some (most_holders version)
most_more_of version k = None

-- which words have to follow them
abbrev pub follow_of : Keyword → Follow
follow_of keyword.Rack = Centre
follow_of keyword.Places = Slots
follow_of keyword.Ahead = Counts
follow_of keyword.Sweep = Counts
follow_of k = Any

-- whether what a line declares has a price
abbrev pub is_priced : Keyword → Bool
is_priced keyword.Worker = true
is_priced keyword.Split = true
is_priced k = false

-- ---- keys

-- what tells the lines of one keyword apart: a word, or two; what is absent is empty
abbrev pub Key : Type 0
Key = Keyword × Word × Word

abbrev pub first_key : Entering → List Word → Word
first_key ByWord ws = slice_index_or ws 0 []
first_key ByPair ws = slice_index_or ws 0 []
first_key e ws = []

abbrev pub second_key : Entering → List Word → Word
second_key ByPair ws = slice_index_or ws 1 []
second_key e ws = []

abbrev pub key_of : Statement → Key
key_of s = (s.keyword, first_key (entering_of s.keyword) s.words, second_key (entering_of s.keyword) s.words)

abbrev pub entered_by : Entering → Statement → List Statement
entered_by Nothing s = []
entered_by InTurn s = []
entered_by e s = s ∷ []

-- the line as one that is entered, if it is
abbrev pub entered_of : Statement → List Statement
entered_of s = entered_by (entering_of s.keyword) s

-- ---- commands

abbrev pub in_turn : Entering → Statement → List Statement
in_turn InTurn s = s ∷ []
in_turn e s = []

-- the line as a command, if it is one
abbrev pub command_of : Statement → List Statement
command_of s = in_turn (entering_of s.keyword) s
