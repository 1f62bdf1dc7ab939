-- What a person is told beside an answer.
use Rattle.std.specs.Prelude.{◌≡◌, ◌+◌, ◌-◌, ◌<◌, ◌≤◌, ◌&&◌, ◌++◌, ◌⊎◌, ℕ, List, [], codes, length}
use Rattle.std.specs.Prelude.{if◌then◌else◌}
use Rattle.std.specs.Prelude.{nat_le, map, replicate, slice_index_or, slice_range}
use Rattle.std.specs.Fmt.{decimal}
use Rattle.std.specs.Option.{option_map_or}
use Rattle.explanations.specs.Table.{line_of, row_named, table}
use Rattle.price_certificate.specs.declared.Condition.{Condition}
use Rattle.price_certificate.specs.declared.Condition.TheVariants.{Open, Allowed, Room, SplitPrice}
use Rattle.price_certificate.specs.declared.Condition.TheVariants.{WorkerPrice, Priced, Tight, Unstarted}
use Rattle.price_certificate.specs.declared.Condition.TheVariants.{Spare}
use Rattle.text_lines.specs.Faults.{number_of_fault}
use Rattle.text_lines.specs.Texts.{lines_of}
use Rattle.text_lines.specs.declared.fault.TextFault.{TextFault}

-- the line of the table of this kind and name, none where it has none
abbrev pub told : List ℕ → List ℕ → List ℕ
told kind name = option_map_or line_of (row_named table kind name) []

-- the number by which a condition is told
abbrev pub number_of_condition : Condition → ℕ
number_of_condition (Open s) = 1
number_of_condition (Allowed s w) = 2
number_of_condition (Room w) = 3
number_of_condition (SplitPrice s) = 4
number_of_condition (WorkerPrice w) = 4
number_of_condition (Priced s w) = 5
number_of_condition (Tight s w) = 6
number_of_condition (Unstarted s) = 7
number_of_condition (Spare w) = 8

-- a byte as it is shown: `?` (63) for one that is not printable
abbrev pub visible : ℕ → ℕ
visible byte = if nat_le 32 byte && nat_le byte 126 then byte else 63

-- at most 76 bytes of a line, and in the next line marks (94) below some of them, or below the place after
-- the last
pub record IsMarked (line lines : List ℕ) : Type 0 where
  pub from : ℕ
  pub to : ℕ
  pub start : ℕ
  pub marks : ℕ
  pub few : to ≤ from + 76
  pub within : to ≤ length line
  pub after : from ≤ start
  pub before : start ≤ to
  pub some : 0 < marks
  pub below : (start + marks ≤ to) ⊎ (marks ≡ 1)
  pub said : lines ≡ codes "  " ++ map visible (slice_range line from to) ++ codes "\n"
      ++ codes "  " ++ replicate (start - from) 32 ++ replicate marks 94 ++ codes "\n"

-- what a note on a fault has under its sentence: of a fault of the whole text nothing, else its line, marked
pub record IsUnder (line : ℕ) (text lines : List ℕ) : Type 0 where
  pub whole : line ≡ 0 → lines ≡ []
  pub marked : 0 < line → IsMarked (slice_index_or (lines_of text) (line - 1) []) lines

-- the sentence of the fault, and what is under it
pub record IsFaultNote (text : List ℕ) (fault : TextFault) (note : List ℕ) : Type 0 where
  pub under : List ℕ
  pub marked : IsUnder fault.line text under
  pub said : note ≡ told (codes "fault") (decimal (number_of_fault fault.number)) ++ under

-- What follows serves private clauses alone.

-- what was added to a list is so
pub record Adds (IsSo : List ℕ → Type 0) (old new : List ℕ) : Type 0 where
  pub added : List ℕ
  pub is_so : IsSo added
  pub grown : new ≡ old ++ added
