-- What the rows of a text without a fault keep to.
use Rattle.std.specs.Prelude.{ℕ, List, ◌≡◌, ◌≢◌, ◌≤◌, drop, length}
use Rattle.std.specs.List.{All, AllPairs, Contains}
use Rattle.std.specs.List.Sorted.{IsNonDecreasingBy}
use Rattle.price_certificate.specs.declared.TheConstants.{MAX_PLACE_PRICE}
use Rattle.text_lines.specs.Texts.{IsNumber, Word, number_of}
use Rattle.line_shapes.specs.Demands.{Meet}
use Rattle.line_shapes.specs.Lines.{HasTailApart, IsInRange, Statement, tail_words}
use Rattle.line_shapes.specs.Places.{places_of}
use Rattle.line_shapes.specs.declared.demand.Demand.TheVariants.{LongName}
use Rattle.line_shapes.specs.declared.keyword.Keyword.TheVariants as keyword
use Rattle.line_rules.specs.Entering.{most_more_of}
use Rattle.line_rules.specs.Faults.{AreRising, IsFew, Keep}
use Rattle.line_rules.specs.Known.{keys_of, rows_of}
use Rattle.line_rules.specs.declared.edition.Version.TheVariants.{Three}
use Rattle.line_rules.specs.declared.rule.Rule.TheVariants as rule
use Rattle.plan_text.specs.Names.{nth_word}

-- each word keeps to its place, in view of all rows
pub record IsTidyRow (rows : List Statement) (s : Statement) : Type 0 where
  pub whole : length (places_of s.keyword) ≤ length s.words
  pub named : Meet LongName s.keyword s.words
  pub known : Keep rule.Declared rows s
  pub in_range : IsInRange s
  pub rising : AreRising s.keyword s.words
  pub few : IsFew (most_more_of Three s.keyword) (length (tail_words s))
  pub tail_apart : HasTailApart s

-- no more lines of a keyword than a text may have, and none entered twice
pub record AreTidy (rows : List Statement) : Type 0 where
  pub few_centres : length (rows_of keyword.Centre rows) ≤ 256
  pub few_racks : length (rows_of keyword.Rack rows) ≤ 4096
  pub few_workers : length (rows_of keyword.Worker rows) ≤ 32768
  pub few_splits : length (rows_of keyword.Split rows) ≤ 131072
  pub few_documents : length (rows_of keyword.Doc rows) ≤ 1048576
  pub differ : AllPairs (λ a b. a ≢ b) (keys_of rows)
  pub each : All (IsTidyRow rows) rows

-- ---- what that comes to, line by line

-- the word at a place is a number, at most so much
pub record IsAtMost (w : Word) (limit : ℕ) : Type 0 where
  pub number : IsNumber w
  pub most : number_of w ≤ limit

pub record IsTidyWorker (racks : List Word) (s : Statement) : Type 0 where
  pub rack : Contains racks (nth_word 1 s)
  pub slots : IsAtMost (nth_word 2 s) 255

pub record IsTidySplit (workers : List Word) (s : Statement) : Type 0 where
  pub is_split : s.keyword ≡ keyword.Split
  pub whole : 2 ≤ length s.words
  pub bytes : IsAtMost (nth_word 1 s) 8589934592
  pub few_holders : length (tail_words s) ≤ 16
  pub holders : All (Contains workers) (tail_words s)
  pub holders_differ : AllPairs (λ a b. a ≢ b) (tail_words s)

pub record IsTidyBar (splits workers : List Word) (s : Statement) : Type 0 where
  pub split : Contains splits (nth_word 0 s)
  pub worker : Contains workers (nth_word 1 s)

abbrev pub IsTidyStart : List Word → Statement → Type 0
IsTidyStart workers s = Contains workers (nth_word 1 s)

-- the prices of places, which are numbers
pub record IsTidyPlaces (s : Statement) : Type 0 where
  pub is_places : s.keyword ≡ keyword.Places
  pub whole : 1 ≤ length s.words
  pub each : All (λ w. IsAtMost w MAX_PLACE_PRICE) (drop 1 s.words)
  pub rising : IsNonDecreasingBy number_of (drop 1 s.words)

abbrev pub IsTidyPrice : Statement → Type 0
IsTidyPrice s = IsAtMost (nth_word 1 s) 18446744073709551615
