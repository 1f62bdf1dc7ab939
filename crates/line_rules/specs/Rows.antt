-- What the code keeps of the rows: the lines, the places of each keyword's lines, the tables of their keys.
use Rattle.std.specs.Prelude.{ℕ, List, [], ◌∷◌, ◌≡◌, ◌≤◌, ◌<◌, ◌-◌, ◌⊎◌, ◌↔◌, ◌==◌, ◌&&◌, Bool, Option, Some}
use Rattle.std.specs.Prelude.{drop, length, map, take}
use Rattle.std.specs.List.{All, Contains, slice_index_or}
use Rattle.std.specs.Borrow.{Bor}
use Rattle.std.specs.Map.{lookup}
use Rattle.std.specs.Option.{IsSome}
use Rattle.std.specs.Str.{bytes_eq}
use Rattle.text_lines.specs.Texts.{Word}
use Rattle.line_shapes.specs.Lines.{Statement, statement_of, words_after}
use Rattle.line_shapes.specs.contracts.keyword.Keyword.{the_type}
use Rattle.line_shapes.specs.declared.keyword.Keyword.{Keyword}
use Rattle.line_shapes.specs.declared.keyword.Keyword.TheVariants.{Barred, Split, Worker}
use Rattle.line_rules.specs.declared.command_list.CommandText.{CommandText}
use Rattle.line_rules.specs.declared.command_list.CommandWords.{CommandWords}
use Rattle.line_rules.specs.declared.command_list.CommandWords.TheVariants as kept
use Rattle.line_rules.specs.declared.line_list.KeptLine.{KeptLine}
use Rattle.line_rules.specs.declared.line_list.KeptLine.TheVariants as kept_line
use Rattle.line_rules.specs.declared.line_list.LinePlace.{LinePlace}
use Rattle.line_rules.specs.declared.line_list.LinePlace.TheVariants as place
use Rattle.line_rules.specs.declared.line_list.WordsPlace.{WordsPlace}
use Rattle.line_rules.specs.Entering.{Key}
use Rattle.line_rules.specs.Known.{HasNumber, keys_of, nth_row, rows_of}
use denote.Enum.Bare.{sameb}
use denote.Enum.Declared.{tag_of}

-- ---- lines as they are kept

-- a line that is kept by its words, or that bars the pair of the split and the worker of these numbers
pub data Kept : Type 0 where
  Line : (s : Statement) → Kept
  Bar : (split : ℕ) → (worker : ℕ) → Kept

-- the first word of a row of this keyword, by its number among them
abbrev pub name_in : Keyword → List Statement → ℕ → Word
name_in k rows n = slice_index_or (nth_row k n rows).words 0 []

-- the line that bars the pair of these names
abbrev pub bar_said : Word → Word → Statement
bar_said split worker = record { keyword = Barred; words = split ∷ worker ∷ [] }

-- what a kept line says: the rows of its pair's numbers declare the pair's names
abbrev pub said_in : List Statement → Kept → Statement
said_in rows (Line s) = s
said_in rows (Bar split worker) = bar_said (name_in Split rows split) (name_in Worker rows worker)

-- the lines that are kept by their words
abbrev pub worded : List Kept → List Statement
worded [] = []
worded (Line s ∷ ks) = s ∷ worded ks
worded (Bar split worker ∷ ks) = worded ks

-- what the kept lines say
abbrev pub rows_in : List Kept → List Statement
rows_in ks = map (said_in (worded ks)) ks

-- the first number is a split's and the second a worker's, among these rows
abbrev pub AreNumbers : List Statement → ℕ → ℕ → Type 0
AreNumbers rows split worker = (split < length (rows_of Split rows)) × (worker < length (rows_of Worker rows))

abbrev pub IsNumbered : List Statement → Kept → Type 0
IsNumbered rows (Line s) = Unit {0}
IsNumbered rows (Bar split worker) = AreNumbers rows split worker

-- each pair is kept by numbers of its rows
abbrev pub AreNumbered : List Kept → Type 0
AreNumbered ks = All (IsNumbered (worded ks)) ks

-- the line bars the pair of the split and the worker of these numbers
pub record IsBarOf (rows : List Statement) (s : Statement) (bar : ℕ × ℕ) : Type 0 where
  pub within : AreNumbers rows bar.0 bar.1
  pub is : s ≡ bar_said (name_in Split rows bar.0) (name_in Worker rows bar.1)

-- ---- lines in one list of words

abbrev pub words_at : List (Bor (List ℕ)) → WordsPlace → List (Bor (List ℕ))
words_at words p = take (p.end - p.start) (drop p.start words)

-- the line at a place among all words
abbrev pub statement_at : List (Bor (List ℕ)) → WordsPlace → Statement
statement_at words p = record { keyword = p.keyword; words = map (λ w. w.now) (words_at words p) }

abbrev pub kept_at : List (Bor (List ℕ)) → LinePlace → Kept
kept_at words (place.Words p) = Line (statement_at words p)
kept_at words (place.Bar split worker) = Bar split worker

abbrev pub IsWithin : List (Bor (List ℕ)) → LinePlace → Type 0
IsWithin words (place.Words p) = (p.start ≤ p.end) × (p.end ≤ length words)
IsWithin words (place.Bar split worker) = Unit {0}

-- each place is one among the words
abbrev pub AreWithin : List (Bor (List ℕ)) → List LinePlace → Type 0
AreWithin words ps = All (IsWithin words) ps

-- ---- lines of the code

abbrev pub kept_of : KeptLine → Kept
kept_of (kept_line.Line l) = Line (statement_of l)
kept_of (kept_line.Bar split worker) = Bar split worker

-- the line at a place is this one
abbrev pub IsKeptAt : List Kept → ℕ → Kept → Type 0
IsKeptAt ks i k = (d : Kept) → slice_index_or ks i d ≡ k

-- the words of a command of this keyword, as they are kept
abbrev pub words_kept : Keyword → CommandWords → List Word
words_kept k kept.Zero = []
words_kept k (kept.One a) = a.now ∷ []
words_kept k (kept.Two a b) = a.now ∷ b.now ∷ []
words_kept k (kept.Text rest) = words_after k rest

abbrev pub command_in : CommandText → Statement
command_in c = record { keyword = c.keyword; words = words_kept c.keyword c.words }

-- ---- the places of the rows of each keyword

-- the list of a keyword, of a list for each keyword
abbrev pub places_of : List (List ℕ) → Keyword → List ℕ
places_of lists k = slice_index_or lists (tag_of the_type k) []

-- each list has the places of the rows of its keyword, in their order
pub record ArePlaced (rows : List Statement) (lists : List (List ℕ)) : Type 0 where
  pub each : length lists ≡ 33
  pub inside : (k : Keyword) → All (λ p. p < length rows) (places_of lists k)
  pub listed : (k : Keyword) (d : Statement) → map (λ p. slice_index_or rows p d) (places_of lists k)
      ≡ rows_of k rows

-- ---- the tables of keys

abbrev pub TextKey : Type 0
TextKey = Keyword × Bor (List ℕ) × Bor (List ℕ)

abbrev pub key_in : TextKey → Key
key_in k = (k.0, k.1.now, k.2.now)

-- a word that is a key alone, with the keyword of its row and the row's number
abbrev pub Firsts : Type 0
Firsts = List (Bor (List ℕ) × (Keyword × ℕ))

-- a key with its row's number
abbrev pub Others : Type 0
Others = List (TextKey × ℕ)

-- what stands beside a word
abbrev pub first_by : Firsts → Word → Option (Keyword × ℕ)
first_by firsts word = lookup (λ k. bytes_eq word k.now) firsts

-- each of the names stands there as that of a split
abbrev pub NameSplits : Firsts → List (Bor (List ℕ)) → Type 0
NameSplits firsts names = (k : ℕ) (d : Bor (List ℕ)) → k < length names
    → (0 < length (slice_index_or names k d).now)
    × ((n : ℕ) × (first_by firsts (slice_index_or names k d).now ≡ Some (Split, n)))

-- two of the names belong to one split in the table
pub record NameTwice (firsts : Firsts) (names : List (Bor (List ℕ))) : Type 0 where
  pub first : ℕ
  pub second : ℕ
  pub number : ℕ
  pub before : first < second
  pub inside : second < length names
  pub one : (d : Bor (List ℕ)) → first_by firsts (slice_index_or names first d).now ≡ Some (Split, number)
  pub other : (d : Bor (List ℕ)) → first_by firsts (slice_index_or names second d).now ≡ Some (Split, number)

abbrev pub same_key : Key → Key → Bool
same_key p q = (sameb the_type p.0 q.0 && bytes_eq p.1 q.1) && bytes_eq p.2 q.2

-- what stands beside a key
abbrev pub other_by : Others → Key → Option ℕ
other_by others key = lookup (λ k. same_key key (key_in k)) others

-- the key stands with this number in the first table, by its keyword, or in the second
abbrev pub IsTabled : Firsts → Others → Key → ℕ → Type 0
IsTabled firsts others key n = ((key.2 ≡ []) × (first_by firsts key.1 ≡ Some (key.0, n)))
    ⊎ (other_by others key ≡ Some n)

-- a barred pair that is kept by the numbers of its split and its worker, with its row's number
abbrev pub Bars : Type 0
Bars = List ((ℕ × ℕ) × ℕ)

abbrev pub test_bar : ℕ × ℕ → ℕ × ℕ → Bool
test_bar p q = (p.0 == q.0) && (p.1 == q.1)

-- what stands beside a pair
abbrev pub bar_by : Bars → ℕ × ℕ → Option ℕ
bar_by bars bar = lookup (test_bar bar) bars

-- the key is that of a pair which stands with this number among the barred pairs
pub record IsBarred (rows : List Statement) (bars : Bars) (key : Key) (n : ℕ) : Type 0 where
  pub bar : ℕ × ℕ
  pub there : bar_by bars bar ≡ Some n
  pub is : key ≡ (Barred, name_in Split rows bar.0, name_in Worker rows bar.1)

-- the tables have the keys of the rows with their numbers; a word that is a key alone stands in the first
pub record AreTabled (rows : List Statement) (firsts : Firsts) (others : Others) (bars : Bars) : Type 0 where
  pub keys : (key : Key) (n : ℕ) → HasNumber rows key n
      ↔ (IsTabled firsts others key n ⊎ IsBarred rows bars key n)
  pub words : (k : Keyword) (word : Word) → Contains (keys_of rows) (k, word, [])
      → IsSome (first_by firsts word)
  pub one : (key : Key) (n m : ℕ) → IsTabled firsts others key n → IsTabled firsts others key m → n ≡ m
  pub within : All (λ e. AreNumbers rows e.0.0 e.0.1) bars

-- the tables have this key more
pub record HasKeyMore (firsts : Firsts) (others : Others) (key : Key) (n : ℕ) (new : Firsts)
    (new_others : Others) : Type 0 where
  pub keys : (k : Key) (m : ℕ) → IsTabled new new_others k m
      ↔ (IsTabled firsts others k m ⊎ ((k ≡ key) × (m ≡ n)))
  pub kept : (word : Word) → IsSome (first_by firsts word) → IsSome (first_by new word)
  pub word : key.2 ≡ [] → IsSome (first_by new key.1)

-- a key of one word that stands in the second table has its word in the first
abbrev pub HaveWords : Firsts → Others → Type 0
HaveWords firsts others = (k : Keyword) (word : Word) (n : ℕ) → other_by others (k, word, []) ≡ Some n
    → IsSome (first_by firsts word)

-- the key is in neither table
abbrev pub IsNewKey : Firsts → Others → Key → Type 0
IsNewKey firsts others key = (n : ℕ) → IsTabled firsts others key n → ⊥

-- the key at a place is of this keyword and first word
abbrev pub IsKeyAt : List Key → ℕ → Keyword → Word → Type 0
IsKeyAt keys i k first = (d : Key) → ((slice_index_or keys i d).0 ≡ k) × ((slice_index_or keys i d).1 ≡ first)

-- the row at a place is this line
abbrev pub IsRowAt : List Statement → ℕ → Statement → Type 0
IsRowAt rows i s = (d : Statement) → slice_index_or rows i d ≡ s
