-- Texts, lines, words, names and numbers. A text is a list of lines, each ended by one line feed.
use Rattle.std.specs.Prelude.{ℕ, List, [], ◌∷◌, ◌≡◌, ◌==◌, ◌+◌, ◌-◌, ◌*◌, ◌≤◌, ◌<◌, ◌⊎◌, length, slice_index}
use Rattle.std.specs.Prelude.{Option, Some, None, slice_index_or}
use Rattle.std.specs.Borrow.{Bor}
use Rattle.std.specs.List.{All, after_first, before_first, position_or_len, range_with_len, slice_split}

abbrev pub Word : Type 0
Word = List ℕ

abbrev pub Line : Type 0
Line = List ℕ

-- what stands between the line feeds; the last has no line feed, and is empty in a whole text
abbrev pub lines_of : List ℕ → List Line
lines_of text = slice_split (λ b. b == 10) text

-- what stands between the spaces; two side by side have an empty word between them
abbrev pub words_of : Line → List Word
words_of line = slice_split (λ b. b == 32) line

-- the words of what is left of a line, none where nothing is
abbrev pub words_left : Option (Bor (List ℕ)) → List Word
words_left None = []
words_left (Some rest) = words_of rest.now

-- the line is cut at its first space, and nothing follows where it has none
abbrev pub IsCutAtSpace : Line → Word → Option (Bor (List ℕ)) → Type 0
IsCutAtSpace line word None = (length line ≤ position_or_len (λ b. b == 32) line) × (word ≡ line)
IsCutAtSpace line word (Some rest) = (position_or_len (λ b. b == 32) line < length line)
    × (word ≡ before_first (λ b. b == 32) line) × (rest.now ≡ after_first (λ b. b == 32) line)

-- the name of a number, and the numbers of some names, from 0 on
abbrev pub name_of : List Word → ℕ → Word
name_of names number = slice_index_or names number []

abbrev pub numbers_of : List Word → List ℕ
numbers_of names = range_with_len 0 (length names)

-- printable ASCII
abbrev pub IsPrintable : ℕ → Type 0
IsPrintable b = (32 ≤ b) × (b ≤ 126)

-- that, or a line feed
abbrev pub IsOfLine : ℕ → Type 0
IsOfLine b = (b ≡ 10) ⊎ IsPrintable b

-- A to Z, or a to z
abbrev pub IsLetter : ℕ → Type 0
IsLetter b = ((65 ≤ b) × (b ≤ 90)) ⊎ ((97 ≤ b) × (b ≤ 122))

-- 0 to 9
abbrev pub IsDigit : ℕ → Type 0
IsDigit b = (48 ≤ b) × (b ≤ 57)

-- a letter, a digit, '-' (45), '_' (95) or '.' (46)
abbrev pub IsNameByte : ℕ → Type 0
IsNameByte b = IsLetter b ⊎ (IsDigit b ⊎ ((b ≡ 45) ⊎ ((b ≡ 95) ⊎ (b ≡ 46))))

-- 1 to 32 such bytes, the first a letter
abbrev pub IsName : Word → Type 0
IsName w = (0 < length w) × (length w ≤ 32) × IsLetter (slice_index w 0) × All IsNameByte w

-- such a byte, ':' (58) or '/' (47)
abbrev pub IsLongNameByte : ℕ → Type 0
IsLongNameByte b = IsNameByte b ⊎ ((b ≡ 58) ⊎ (b ≡ 47))

-- 1 to 64 of these
abbrev pub IsLongName : Word → Type 0
IsLongName w = (0 < length w) × (length w ≤ 64) × All IsLongNameByte w

-- the number that digits stand for, after those of n
abbrev pub number_from : ℕ → List ℕ → ℕ
number_from n [] = n
number_from n (c ∷ cs) = number_from (10 * n + (c - 48)) cs

-- in base ten
abbrev pub number_of : Word → ℕ
number_of ds = number_from 0 ds

-- decimal digits, '0' (48) alone or without a leading zero
abbrev pub IsNumber : Word → Type 0
IsNumber w = All IsDigit w × (0 < length w) × (slice_index w 0 ≡ 48 → length w ≡ 1)
