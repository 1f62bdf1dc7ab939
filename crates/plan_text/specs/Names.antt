-- The words of lines, and the names that lines of a keyword declare.
use Rattle.std.specs.Prelude.{ℕ, List, [], map, slice_index_or}
use Rattle.std.specs.List.{flat_map}
use Rattle.text_lines.specs.Texts.{Word}
use Rattle.line_shapes.specs.Lines.{Statement}
use Rattle.line_shapes.specs.declared.keyword.Keyword.{Keyword}
use Rattle.line_shapes.specs.declared.keyword.Keyword.TheVariants.{Worker, Split}
use Rattle.line_rules.specs.Entering.{entered_of}
use Rattle.line_rules.specs.Known.{rows_of}

-- the word at a place after the keyword, counted from 0, empty past the last
abbrev pub nth_word : ℕ → Statement → Word
nth_word i s = slice_index_or s.words i []

-- the names that these lines declare, or are about
abbrev pub names_in : List Statement → List Word
names_in lines = map (nth_word 0) lines

-- those of the lines of a keyword, in their order
abbrev pub names_of : Keyword → List Statement → List Word
names_of k rows = names_in (rows_of k rows)

-- the lines of a text that are entered: all but its first line, `plan` and `end`
abbrev pub rows_in : List Statement → List Statement
rows_in ss = flat_map entered_of ss

abbrev pub splits : List Statement → List Word
splits ss = names_of Split (rows_in ss)

abbrev pub workers : List Statement → List Word
workers ss = names_of Worker (rows_in ss)
