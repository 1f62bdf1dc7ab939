-- What a line says: a keyword and its words, each of which has the shape of its place.
use Rattle.std.specs.Prelude.{ℕ, zero, suc, List, [], ◌∷◌, ◌≡◌, ◌≢◌, ◌≤◌, ◌==◌, Bool, Option, Some, None}
use Rattle.std.specs.Prelude.{drop, length, map, nat_lt, if◌then◌else◌}
use Rattle.std.specs.Borrow.{Bor}
use Rattle.std.specs.List.{AllPairs, after_first, before_first, position_or_len}
use Rattle.text_lines.specs.Texts.{Line, Word, words_of}
use Rattle.line_shapes.specs.declared.demand.Demand.TheVariants.{Shape, Range}
use Rattle.line_shapes.specs.declared.keyword.Keyword.{Keyword}
use Rattle.line_shapes.specs.declared.line.KeyedLine.{KeyedLine}
use Rattle.line_shapes.specs.declared.place.Place.{Place}
use Rattle.line_shapes.specs.declared.place.Place.TheVariants.{New, Used, Text}
use Rattle.line_shapes.specs.Demands.{Meet}
use Rattle.line_shapes.specs.Keywords.{spelling_of}
use Rattle.line_shapes.specs.Places.{more_of, places_of}

-- ---- the words of a line

abbrev pub is_space : ℕ → Bool
is_space b = b == 32

-- a space stands in the text: before its end
abbrev pub has_space : List ℕ → Bool
has_space text = nat_lt (position_or_len is_space text) (length text)

-- the first n words, and what follows them as it stands
abbrev pub first_words : ℕ → List ℕ → List Word
first_words zero text = text ∷ []
first_words (suc n) text =
    if has_space text then before_first is_space text ∷ first_words n (after_first is_space text) else text ∷
    []

-- the words between the spaces; where a text may follow the first n of them, it is one word
abbrev pub pieces : Option Place → ℕ → List ℕ → List Word
pieces (Some Text) n text = first_words n text
pieces more n text = words_of text

-- the words of a line of this keyword, which is one itself
abbrev pub words_in : Keyword → Line → List Word
words_in k line = pieces (more_of k) (suc (length (places_of k))) line

-- ---- what a line says

pub record Statement : Type 0 where
  pub keyword : Keyword
  pub words : List Word

-- each word has the shape of its place, and no place is without a word
pub record IsShaped (s : Statement) : Type 0 where
  pub many : length (places_of s.keyword) ≤ length s.words
  pub shape : Meet Shape s.keyword s.words

-- the line says this
pub record Says (line : Line) (s : Statement) : Type 0 where
  pub spelled : words_in s.keyword line ≡ spelling_of s.keyword ∷ s.words
  pub many : length (places_of s.keyword) ≤ length s.words
  pub shape : Meet Shape s.keyword s.words

abbrev pub SaysNothing : Line → Type 0
SaysNothing line = (s : Statement) → Says line s → ⊥

-- ---- what may be wrong with a statement, whatever stands before it

abbrev pub IsInRange : Statement → Type 0
IsInRange s = Meet Range s.keyword s.words

-- names that may follow any number of times stand once each; numbers may stand again
abbrev pub Differ : Option Place → List Word → Type 0
Differ (Some New) ws = AllPairs (λ a b. a ≢ b) ws
Differ (Some (Used kind)) ws = AllPairs (λ a b. a ≢ b) ws
Differ more ws = Unit {0}

-- the words after the places
abbrev pub tail_words : Statement → List Word
tail_words s = drop (length (places_of s.keyword)) s.words

abbrev pub HasTailApart : Statement → Type 0
HasTailApart s = Differ (more_of s.keyword) (tail_words s)

-- ---- lines of the code

abbrev pub statement_of : KeyedLine → Statement
statement_of l = record { keyword = l.keyword; words = map (λ w. w.now) l.words.now }

-- these words after the keyword
abbrev pub stated : Keyword → List (Bor (List ℕ)) → Statement
stated k ws = record { keyword = k; words = map (λ w. w.now) ws }

-- the words of what follows the space after a word, none where no space follows
abbrev pub pieces_after : Option Place → ℕ → Option (Bor (List ℕ)) → List Word
pieces_after more n None = []
pieces_after more n (Some rest) = pieces more n rest.now

abbrev pub words_after : Keyword → Option (Bor (List ℕ)) → List Word
words_after k rest = pieces_after (more_of k) (length (places_of k)) rest
