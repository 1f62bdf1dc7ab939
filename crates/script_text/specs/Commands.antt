-- The command that a line says: its names by number, and its numbers.
use Rattle.std.specs.Prelude.{ℕ, List, All, [], ◌≡◌, ◌+◌, ◌<◌, ◌≤◌, Some, length, position, slice_index_or}
use Rattle.std.specs.Str.{bytes_eq}
use Rattle.text_lines.specs.Texts.{IsNumber, Word, number_of}
use Rattle.line_shapes.specs.Lines.{Statement}
use Rattle.line_shapes.specs.declared.keyword.Keyword.TheVariants as keyword
use Rattle.script_text.specs.declared.script.Command.{Command}
use Rattle.script_text.specs.declared.script.Command.TheVariants as command
use Rattle.script_text.specs.declared.script.Names.{Names}

abbrev pub word_at : List Word → ℕ → Word
word_at ws i = slice_index_or ws i []

-- the name has this number
abbrev pub IsNumbered : List Word → Word → ℕ → Type 0
IsNumbered names name n = position (λ m. bytes_eq name m) names ≡ Some n

-- the word is this number
abbrev pub IsAmount : Word → ℕ → Type 0
IsAmount word n = IsNumber word × (number_of word ≡ n)

-- the words from a place on are the names of these numbers
pub record AreNumbered (names : List Word) (ws : List Word) (first : ℕ) (numbers : List ℕ) : Type 0 where
  pub many : length ws ≡ first + length numbers
  pub each : (k d : ℕ) → k < length numbers →
      IsNumbered names (word_at ws (first + k)) (slice_index_or numbers k d)

-- the words are these numbers
pub record AreTold (ws : List Word) (numbers : List ℕ) : Type 0 where
  pub many : length ws ≡ length numbers
  pub each : (k d : ℕ) → k < length numbers → IsAmount (word_at ws k) (slice_index_or numbers k d)

-- a split and a worker
abbrev pub ArePair : Names → List Word → ℕ → ℕ → Type 0
ArePair names ws split worker =
    IsNumbered names.splits (word_at ws 0) split × IsNumbered names.workers (word_at ws 1) worker

-- the line says the command
abbrev pub SaysCommand : Names → Statement → Command → Type 0
SaysCommand names s command.Wave = s.keyword ≡ keyword.Wave
SaysCommand names s (command.Ahead places) = (s.keyword ≡ keyword.Ahead) × AreTold s.words places.items
SaysCommand names s (command.Done attempt) = (s.keyword ≡ keyword.Done) × IsAmount (word_at s.words 0) attempt
SaysCommand names s (command.Fail attempt) = (s.keyword ≡ keyword.Fail) × IsAmount (word_at s.words 0) attempt
SaysCommand names s (command.Withdraw attempt) =
    (s.keyword ≡ keyword.Withdraw) × IsAmount (word_at s.words 0) attempt
SaysCommand names s (command.Backup split worker) =
    (s.keyword ≡ keyword.Backup) × ArePair names s.words split worker
SaysCommand names s (command.Die worker) =
    (s.keyword ≡ keyword.Die) × IsNumbered names.workers (word_at s.words 0) worker
SaysCommand names s (command.Join worker splits) = (s.keyword ≡ keyword.Join)
    × IsNumbered names.workers (word_at s.words 0) worker × AreNumbered names.splits s.words 1 splits.items
SaysCommand names s (command.Add split worker) =
    (s.keyword ≡ keyword.Add) × ArePair names s.words split worker
SaysCommand names s (command.Lose split worker) =
    (s.keyword ≡ keyword.Lose) × ArePair names s.words split worker
SaysCommand names s (command.Sweep counts) = (s.keyword ≡ keyword.Sweep) × AreTold s.words counts.items
SaysCommand names s command.Reduce = s.keyword ≡ keyword.Reduce
SaysCommand names s command.Copies = s.keyword ≡ keyword.Copies

-- the lines say the commands, each its own
pub record SayCommands (names : Names) (lines : List Statement) (commands : List Command) : Type 0 where
  pub many : length lines ≡ length commands
  pub each : (k : ℕ) (s : Statement) (c : Command) → k < length commands
      → SaysCommand names (slice_index_or lines k s) (slice_index_or commands k c)

-- the command names workers and splits below these numbers, gives no more counts than there may be workers, and
-- no worker more places than it may have
abbrev pub IsKnownIn : ℕ → ℕ → Command → Type 0
IsKnownIn workers splits (command.Ahead places) =
    (length places.items ≤ 32768) × All (λ n. n ≤ 255) places.items
IsKnownIn workers splits (command.Backup s w) = (s < splits) × (w < workers)
IsKnownIn workers splits (command.Die w) = w < workers
IsKnownIn workers splits (command.Join w set) = (w < workers) × All (λ s. s < splits) set.items
IsKnownIn workers splits (command.Add s w) = (s < splits) × (w < workers)
IsKnownIn workers splits (command.Lose s w) = (s < splits) × (w < workers)
IsKnownIn workers splits (command.Sweep counts) = length counts.items ≤ 32768
IsKnownIn workers splits c = Unit {0}
