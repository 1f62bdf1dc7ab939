-- A table of words with their documents, in any order.
use Rattle.std.specs.Prelude.{◌↔◌, ◌⊎◌, ℕ, ◌<◌, List, [], length, map, Contains, IsSome, nat_eq}
use Rattle.smallvec.specs.SmallVec.{SmallVec}
use Rattle.std.specs.Option.{option_map_or}
use Rattle.std.specs.HashMap.{HashMap, get, IsUnique}
use Rattle.std.specs.Cmp.Lexicographic.{pointwise}
use Rattle.word_map.specs.Texts.{Pair}
use Rattle.word_map.specs.Entries.{EntryView, pairs_of_index}

module _ {S : Type 0} where
  -- the documents that the table has for a word
  abbrev pub documents_of : HashMap (List ℕ) (SmallVec ℕ) S → List ℕ → List ℕ
  documents_of m w = option_map_or (λ (d : SmallVec ℕ). d.items) (get (pointwise nat_eq) m w) []

  -- the table has the document for the word
  abbrev pub Has : HashMap (List ℕ) (SmallVec ℕ) S → List ℕ → ℕ → Type 0
  Has m w n = Contains (documents_of m w) n

  -- each word of the table has a document
  abbrev pub NoneIsEmpty : HashMap (List ℕ) (SmallVec ℕ) S → Type 0
  NoneIsEmpty m = (w : List ℕ) → IsSome (get (pointwise nat_eq) m w) → 0 < length (documents_of m w)

  -- what a table keeps: each word stands once, with a document at least
  pub record IsTable (m : HashMap (List ℕ) (SmallVec ℕ) S) : Type 0 where
    pub unique : IsUnique (pointwise nat_eq) m
    pub some : NoneIsEmpty m

-- the words with their documents
abbrev pub views : List (List ℕ × SmallVec ℕ) → List EntryView
views entries = map (λ (e : List ℕ × SmallVec ℕ). let v : EntryView =
    record { word = e.0; documents = e.1.items } in v) entries

-- new has the pairs of old and those that are added, and no other
pub record AddsPairs (old new : List EntryView) (Added : Pair → Type 0) : Type 0 where
  pub exact : (pair : Pair) → Contains (pairs_of_index new) pair ↔
      (Contains (pairs_of_index old) pair ⊎ Added pair)
