-- The index of some texts, and which parts are there.
pub use Rattle.word_map.specs.Entries.{EntryView, pair_of, pairs_of_entry, pairs_of_index, WordIsBelow}
use Rattle.std.specs.Prelude.{◌≡◌, ◌↔◌, ◌==◌, ℕ, ◌<◌, ◌≤◌, List, length, All, AllPairs, Any, Contains}
use Rattle.std.specs.Prelude.{count_by}
use Rattle.word_map.specs.declared.text.Document.{Document}
use Rattle.word_map.specs.Texts.{SplitDocuments, Pair, IsPairOf}
use Rattle.word_map.specs.Runs.{AreRisingPairs}
use Rattle.shuffle_reduce.specs.Merged.{PartView, AreSameTexts, IsPairOfTexts}

-- the words in byte order, each once, each word's documents by number, and just these pairs
pub record IsIndexOfPairs (IsMeant : Pair → Type 0) (entries : List EntryView) : Type 0 where
  pub words : AllPairs WordIsBelow entries
  pub rising : AreRisingPairs (pairs_of_index entries)
  pub some : All (λ entry. 0 < length entry.documents) entries
  pub exact : (pair : Pair) → Contains (pairs_of_index entries) pair ↔ IsMeant pair

-- the index of the words of the texts
abbrev pub IsIndexOf : List SplitDocuments → List EntryView → Type 0
IsIndexOf texts entries = IsIndexOfPairs (IsPairOfTexts texts) entries

-- texts have one index: whoever made it, and in whatever order
abbrev pub HaveOneIndex : Type 0
HaveOneIndex = (texts : List SplitDocuments) (entries others : List EntryView) → IsIndexOf texts entries →
    IsIndexOf texts others → entries ≡ others

-- the same of documents that are not divided into texts
abbrev pub IsIndexOfDocuments : List Document → List EntryView → Type 0
IsIndexOfDocuments documents entries = IsIndexOfPairs (IsPairOf documents) entries

-- the documents of the texts are these and no others
abbrev pub AreDocumentsOf : List SplitDocuments → List Document → Type 0
AreDocumentsOf texts documents = (document : Document) →
    Contains documents document ↔ Any (λ (text : SplitDocuments). Contains text.documents document) texts

-- how many of the results are of the part
abbrev pub count_of : List PartView → ℕ → ℕ
count_of results part = count_by (λ result. result.part == part) results

-- a part stands twice
abbrev pub HasDouble : List PartView → Type 0
HasDouble results = (part : ℕ) × (2 ≤ count_of results part)

-- a part is not there
abbrev pub HasMissing : List PartView → ℕ → Type 0
HasMissing results parts = (part : ℕ) × (part < parts) × (count_of results part ≡ 0)

-- each result is of these texts and of this number of parts
pub record AreReady (parts : ℕ) (texts : List SplitDocuments) (results : List PartView) : Type 0 where
  pub covers : All (λ (one : PartView). AreSameTexts one.texts texts) results
  pub same : All (λ (one : PartView). one.parts ≡ parts) results
