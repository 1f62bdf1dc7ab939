-- What stands after the keyword of each command of a text without a fault: names that are declared, and
-- numbers within their range.
use Rattle.std.specs.Prelude.{ℕ, List, ◌≤◌, ◌<◌, Contains, length}
use Rattle.text_lines.specs.Texts.{IsNumber, Word, number_of}
use Rattle.line_shapes.specs.Lines.{Statement}
use Rattle.line_shapes.specs.declared.keyword.Keyword.{Keyword}
use Rattle.line_shapes.specs.declared.keyword.Keyword.TheVariants as keyword
use Rattle.plan_text.specs.Names.{names_of}
use Rattle.script_text.specs.Commands.{word_at}
use Rattle.script_text.specs.declared.script.Names.{Names}

-- one of these names stands at the place
pub record HasName (names : List Word) (ws : List Word) (i : ℕ) : Type 0 where
  pub inside : i < length ws
  pub known : Contains names (word_at ws i)

-- a number, at most so much, stands at the place
pub record HasNumber (most : ℕ) (ws : List Word) (i : ℕ) : Type 0 where
  pub inside : i < length ws
  pub number : IsNumber (word_at ws i)
  pub small : number_of (word_at ws i) ≤ most

-- the words from a place on are of these names
abbrev pub HaveNames : List Word → List Word → ℕ → Type 0
HaveNames names ws first = (i : ℕ) → first ≤ i → i < length ws → HasName names ws i

-- the words are numbers, each at most so much
abbrev pub HaveNumbers : ℕ → List Word → Type 0
HaveNumbers most ws = (i : ℕ) → i < length ws → HasNumber most ws i

-- a split and a worker stand first
abbrev pub HavePair : Names → List Word → Type 0
HavePair names ws = HasName names.splits ws 0 × HasName names.workers ws 1

-- these words follow the keyword of a command
abbrev pub HasWords : Names → Keyword → List Word → Type 0
HasWords names keyword.Wave ws = Unit {0}
HasWords names keyword.Ahead ws = HaveNumbers 255 ws
HasWords names keyword.Done ws = HasNumber 1000000 ws 0
HasWords names keyword.Fail ws = HasNumber 1000000 ws 0
HasWords names keyword.Withdraw ws = HasNumber 1000000 ws 0
HasWords names keyword.Die ws = HasName names.workers ws 0
HasWords names keyword.Join ws = HasName names.workers ws 0 × HaveNames names.splits ws 1
HasWords names keyword.Add ws = HavePair names ws
HasWords names keyword.Lose ws = HavePair names ws
HasWords names keyword.Sweep ws = HaveNumbers 1099511627776 ws
HasWords names keyword.Reduce ws = Unit {0}
HasWords names keyword.Copies ws = Unit {0}
HasWords names keyword.Backup ws = HavePair names ws
HasWords names k ws = ⊥

-- the line is a command with all its words
abbrev pub IsWholeCommand : Names → Statement → Type 0
IsWholeCommand names s = HasWords names s.keyword s.words

-- each name has a number of its kind
pub record AreFew (names : Names) : Type 0 where
  pub workers : length names.workers ≤ 32768
  pub splits : length names.splits ≤ 131072

-- the names that the rows declare
abbrev pub told_names : List Statement → Names
told_names rows = record {
  workers = names_of keyword.Worker rows;
  splits = names_of keyword.Split rows;
  documents = names_of keyword.Doc rows;
}
