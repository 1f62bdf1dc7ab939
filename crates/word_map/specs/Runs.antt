-- The run of a split's text for one part of its words.
use Rattle.std.specs.Prelude.{◌≡◌, ◌↔◌, ℕ, ◌<◌, List, length, slice_index_or, Contains}
use Rattle.std.specs.declared.alloc.Global.{Global}
use Rattle.std.specs.Arc.{arc_value}
use Rattle.std.specs.declared.sync.Arc.{Arc}
use Rattle.std.specs.List.Sorted.{IsStrictlySortedBy}
use Rattle.std.specs.Ordering.{nat_cmp, ordering_then}
use Rattle.std.specs.Cmp.Lexicographic.{slice_cmp}
use Rattle.std.specs.declared.cmp.Ordering.{Ordering}
use Rattle.word_map.specs.declared.text.Document.{Document}
use Rattle.word_map.specs.Words.{part_of}
use Rattle.word_map.specs.Texts.{SplitDocuments, Pair, IsPairOf}

-- by the bytes of the word, and then by the document's number
abbrev pub pair_cmp : Pair → Pair → Ordering
pair_cmp a b = ordering_then (slice_cmp nat_cmp a.word b.word) (nat_cmp a.document b.document)

-- the pairs rise, so each stands once
abbrev pub AreRisingPairs : List Pair → Type 0
AreRisingPairs pairs = IsStrictlySortedBy pair_cmp pairs

-- the pairs of the documents whose word belongs to the part, rising
pub record IsRunOf (documents : List Document) (part parts : ℕ) (pairs : List Pair) : Type 0 where
  pub rising : AreRisingPairs pairs
  pub exact : (pair : Pair) →
      Contains pairs pair ↔ (IsPairOf documents pair × (part_of pair.word parts ≡ part))

-- what a run keeps: its part is one of the parts, and its pairs are those of the documents for it
pub record IsRun (documents : List Document) (part parts : ℕ) (pairs : List Pair) : Type 0 where
  pub in_range : part < parts
  pub exact : IsRunOf documents part parts pairs

-- a run with its text, its part and the number of parts
pub record RunView : Type 0 where
  pub text : SplitDocuments
  pub part : ℕ
  pub parts : ℕ
  pub pairs : List Pair

-- the run is of this text, this part and this number of parts
pub record IsRunFor (text : SplitDocuments) (part parts : ℕ) (run : RunView) : Type 0 where
  pub same_text : run.text ≡ text
  pub same_part : run.part ≡ part
  pub same_parts : run.parts ≡ parts

-- what a split's map made: a run for each part
pub record MapView : Type 0 where
  pub text : SplitDocuments
  pub parts : ℕ

-- each run is of the text, of its part, and of as many parts as there are runs
pub record AreRunsOfText (text : SplitDocuments) (runs : List (Arc RunView Global)) : Type 0 where
  pub each : (part : ℕ) (d : Arc RunView Global) → part < length runs →
      IsRunFor text part (length runs) (arc_value (slice_index_or runs part d))
