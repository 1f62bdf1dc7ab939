-- Words with their documents.
use Rattle.std.specs.Prelude.{◌≡◌, ℕ, ◌<◌, List, length, map, All, AllPairs, Contains}
use Rattle.std.specs.List.{flat_map}
use Rattle.std.specs.List.Sorted.{IsStrictlySortedBy}
use Rattle.std.specs.Cmp.Lexicographic.{slice_cmp}
use Rattle.std.specs.Ordering.{nat_cmp}
use Rattle.std.specs.declared.cmp.Ordering.TheVariants.{Less}
use Rattle.word_map.specs.Texts.{Pair}

-- a word with its documents
pub record EntryView : Type 0 where
  pub word : List ℕ
  pub documents : List ℕ

-- a word with one of its documents
abbrev pub pair_of : List ℕ → ℕ → Pair
pair_of word document = record { word = word; document = document }

-- the entry's word with each of its documents
abbrev pub pairs_of_entry : EntryView → List Pair
pairs_of_entry entry = map (pair_of entry.word) entry.documents

-- the pairs of the entries, one entry after another
abbrev pub pairs_of_index : List EntryView → List Pair
pairs_of_index entries = flat_map pairs_of_entry entries

-- the entries have a pair
abbrev pub HavePair : List EntryView → Type 0
HavePair entries = (pair : Pair) × Contains (pairs_of_index entries) pair

-- the entry's word comes before the other's, in byte order
abbrev pub WordIsBelow : EntryView → EntryView → Type 0
WordIsBelow a b = slice_cmp nat_cmp a.word b.word ≡ Less

-- the entry's documents rise, so each stands once
abbrev pub DocumentsRise : EntryView → Type 0
DocumentsRise entry = IsStrictlySortedBy nat_cmp entry.documents

-- the words in byte order, each once, each word with a document at least, and these by number
pub record AreEntries (entries : List EntryView) : Type 0 where
  pub words : AllPairs WordIsBelow entries
  pub documents : All DocumentsRise entries
  pub some : All (λ entry. 0 < length entry.documents) entries
