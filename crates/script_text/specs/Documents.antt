-- The documents that a head declares, and the text of each split.
use Rattle.std.specs.Prelude.{ℕ, List, Bool, map, filter}
use Rattle.std.specs.List.{enumerate_from}
use Rattle.std.specs.Str.{bytes_eq}
use Rattle.text_lines.specs.Texts.{Word}
use Rattle.line_shapes.specs.Lines.{Statement}
use Rattle.line_shapes.specs.declared.keyword.Keyword.TheVariants.{Doc, Split}
use Rattle.line_rules.specs.Known.{rows_of}
use Rattle.word_map.specs.Texts.{SplitDocuments}
use Rattle.word_map.specs.declared.text.Document.{Document}
use Rattle.plan_text.specs.Names.{names_of, nth_word}

-- `doc NAME SPLIT TEXT`, a line with its number among the lines of documents: without a text it is empty
abbrev pub document_of : ℕ × Statement → Document
document_of line = record { number = line.0; text = nth_word 2 line.1 }

-- the line names this split
abbrev pub is_in : Word → ℕ × Statement → Bool
is_in split line = bytes_eq split (nth_word 1 line.1)

-- the documents of a split: those lines that name it, in their order, each by its number among all
abbrev pub documents_of : List Statement → Word → List Document
documents_of lines split = map document_of (filter (is_in split) (enumerate_from 0 lines))

-- the documents of a split with its number
abbrev pub text_of_split : ℕ × List Document → SplitDocuments
text_of_split split = record { split = split.0; documents = split.1 }

-- the text of each split, by number
abbrev pub texts_of : List Statement → List SplitDocuments
texts_of rows =
    map text_of_split (enumerate_from 0 (map (documents_of (rows_of Doc rows)) (names_of Split rows)))
