-- The numbers of the workers that hold splits.
use Rattle.std.specs.Prelude.{ℕ, List, [], ◌∷◌, ◌≡◌, ◌<◌, length, map}
use Rattle.std.specs.List.{All, flat_map}
use Rattle.text_lines.specs.Texts.{Word}
use Rattle.line_shapes.specs.Lines.{Statement, tail_words}
use Rattle.line_shapes.specs.declared.keyword.Keyword.TheVariants.{Split, Worker}
use Rattle.line_rules.specs.Known.{HasRow, rows_of}
use Rattle.line_rules.specs.Rows.{name_in}

-- these numbers are numbers of workers among the rows, and the workers have these names
pub record AreNumbersOf (rows : List Statement) (names : List Word) (numbers : List ℕ) : Type 0 where
  pub within : All (λ n. n < length (rows_of Worker rows)) numbers
  pub named : map (name_in Worker rows) numbers ≡ names

-- the holders of all splits, split by split
abbrev pub holders_in : List Statement → List Word
holders_in rows = flat_map tail_words (rows_of Split rows)

abbrev pub AreHolders : List Statement → List ℕ → Type 0
AreHolders rows numbers = AreNumbersOf rows (holders_in rows) numbers

-- these are the numbers of one line's holders; a line that is no split line has no holders
abbrev pub AreHoldersOf : List Statement → Statement → List ℕ → Type 0
AreHoldersOf rows s numbers = AreNumbersOf rows (holders_in (s ∷ [])) numbers

abbrev pub IsWorker : List Statement → Word → Type 0
IsWorker rows w = (0 < length w) × HasRow rows Worker w

-- each holder of a split's line is a worker
abbrev pub IsHeld : List Statement → Statement → Type 0
IsHeld rows s = s.keyword ≡ Split → All (IsWorker rows) (tail_words s)
