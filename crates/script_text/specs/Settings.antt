-- The settings of a head: lines of a keyword and a number, of which there is one at most.
use Rattle.std.specs.Prelude.{ℕ, List, [], ◌∷◌}
use Rattle.text_lines.specs.Texts.{number_of}
use Rattle.line_shapes.specs.Lines.{Statement}
use Rattle.line_shapes.specs.declared.keyword.Keyword.{Keyword}
use Rattle.line_rules.specs.Known.{rows_of}
use Rattle.plan_text.specs.Names.{nth_word}
use Rattle.plan_text.specs.Tidy.{IsAtMost}

-- the number that the first line tells, or this one where no line tells one
abbrev pub number_or : ℕ → List Statement → ℕ
number_or n [] = n
number_or n (s ∷ ss) = number_of (nth_word 0 s)

-- a setting of the head
abbrev pub setting : Keyword → ℕ → List Statement → ℕ
setting k n rows = number_or n (rows_of k rows)

-- the line has a number for its first word, and not a great one
abbrev pub IsSetting : Statement → Type 0
IsSetting s = IsAtMost (nth_word 0 s) 1000
