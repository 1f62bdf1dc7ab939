-- A hash table of words, and its chains.
use Rattle.std.specs.Prelude.{ℕ, List, [], ◌≡◌, ◌≢◌, ◌≤◌, ◌<◌, ◌+◌, ◌-◌, length, slice_index, slice_index_or}
use Rattle.std.specs.Prelude.{bit_and}
use Rattle.std.specs.Borrow.{Bor}
use Rattle.std.specs.Hash.FoldHasher.{finish, initial, write}
use Rattle.text_lines.specs.Texts.{Word}
use Rattle.line_shapes.specs.declared.keyword.Keyword.{Keyword}
use Rattle.line_rules.specs.declared.word_table.WordEntry.{WordEntry}
use Rattle.line_rules.specs.Rows.{Firsts}

-- the words of a table, each with the keyword and the number of its row
pub record Words : Type 0 where
  pub entries : Firsts

abbrev pub pair_of : WordEntry → Bor (List ℕ) × (Keyword × ℕ)
pair_of e = (e.word, e.of)

-- the mark of a word, where there are so many marks: the low bits of its hash
abbrev pub mark_of : Word → ℕ → ℕ
mark_of word marks = bit_and (finish (write initial word)) (marks - 1)

abbrev pub word_at : List Word → ℕ → Word
word_at words j = slice_index_or words j []

-- link is one more than the place of the last word before `high` that has this mark, or 0 where none has it
pub record IsLink (words : List Word) (marks mark high link : ℕ) : Type 0 where
  pub within : link ≤ high
  pub last : (j : ℕ) → j + 1 ≡ link → mark_of (word_at words j) marks ≡ mark
  pub none : (j : ℕ) → link ≤ j → j < high → mark_of (word_at words j) marks ≢ mark

-- the words of each mark are chained, from the last one to the first; no word stands twice
pub record AreChained (words : List Word) (nexts heads : List ℕ) : Type 0 where
  pub some : 0 < length heads
  pub first : (m : ℕ) → m < length heads → IsLink words (length heads) m (length words) (slice_index heads m)
  pub then : (i : ℕ) → i < length words
      → IsLink words (length heads) (mark_of (word_at words i) (length heads)) i (slice_index nexts i)
  pub apart : (i j : ℕ) → i < j → j < length words → word_at words i ≢ word_at words j
