-- What a reader gives and a writer takes, where their bytes are known.
use Rattle.std.specs.Prelude.{ℕ, List, ◌≡◌, ◌++◌, ◌+◌, ◌≤◌, ◌==◌, ◌||◌, Bool, codes, cond, length, Option}
use Rattle.std.specs.List.{starts_with}
use Rattle.std.specs.Io.KnownBytes.{Appends, Consumes}

-- the text begins with this line
abbrev pub begins : List ℕ → List ℕ → Bool
begins line text = starts_with (λ a b. a == b) text line

-- its first line is that of a text of version 3
abbrev pub is_long : List ℕ → Bool
is_long text =
    begins (codes "problem 3\n") text || begins (codes "script 3\n") text || begins (codes "job 3\n") text

-- how many bytes a text may have: 256 MiB in version 3, 16 MiB before
abbrev pub longest : List ℕ → ℕ
longest text = cond (is_long text) 268435456 16777216

-- the most bytes that are read of a text: one more than it may have
abbrev pub most_read_of : List ℕ → ℕ
most_read_of text = longest text + 1

-- of any text
abbrev pub most_read : ℕ
most_read = 268435457

-- a writer took some front of the text, perhaps none or all of it
pub record AppendsFront (old new : Option (List ℕ)) (text : List ℕ) : Type 0 where
  pub front : List ℕ
  pub rest : List ℕ
  pub whole : text ≡ front ++ rest
  pub appended : Appends old new front

-- a reader lost at most so many bytes
pub record ConsumesAtMost (old new : Option (List ℕ)) (most : ℕ) : Type 0 where
  pub bytes : List ℕ
  pub few : length bytes ≤ most
  pub consumed : Consumes old new bytes

-- a reader lost no more bytes than are read of a text that begins so
pub record ConsumesText (old new : Option (List ℕ)) : Type 0 where
  pub bytes : List ℕ
  pub few : length bytes ≤ most_read_of bytes
  pub consumed : Consumes old new bytes

-- what a reader lost stands at the end of the text
pub record Reads (before after : Option (List ℕ)) (old new : List ℕ) : Type 0 where
  pub bytes : List ℕ
  pub grown : new ≡ old ++ bytes
  pub consumed : Consumes before after bytes

-- a writer took what is gone from the rest
pub record Moves (before after : Option (List ℕ)) (rest left : List ℕ) : Type 0 where
  pub bytes : List ℕ
  pub whole : rest ≡ bytes ++ left
  pub appended : Appends before after bytes
