-- What a part's result holds, and which texts are covered.
use Rattle.std.specs.Prelude.{◌≡◌, ◌↔◌, ◌&&◌, ℕ, ◌<◌, Bool, List, Any, Contains}
use Rattle.std.specs.List.{list_all, list_any}
use Rattle.word_map.specs.Words.{part_of}
use Rattle.word_map.specs.Texts.{SplitDocuments, Pair, IsPairOf, same_text}
use Rattle.word_map.specs.Runs.{AreRisingPairs}

-- the word is a word of a document of one of the texts
abbrev pub IsPairOfTexts : List SplitDocuments → Pair → Type 0
IsPairOfTexts texts pair = Any (λ text. IsPairOf text.documents pair) texts

-- one of the texts has a word
abbrev pub HaveWord : List SplitDocuments → Type 0
HaveWord texts = (pair : Pair) × IsPairOfTexts texts pair

-- the pairs of the texts whose word belongs to the part, rising
pub record IsPartOf (texts : List SplitDocuments) (part parts : ℕ) (pairs : List Pair) : Type 0 where
  pub rising : AreRisingPairs pairs
  pub exact : (pair : Pair) →
      Contains pairs pair ↔ (IsPairOfTexts texts pair × (part_of pair.word parts ≡ part))

-- what a part's result keeps: its part is one of the parts, and its pairs are those of the texts for it
pub record IsPart (texts : List SplitDocuments) (part parts : ℕ) (pairs : List Pair) : Type 0 where
  pub in_range : part < parts
  pub exact : IsPartOf texts part parts pairs

-- a part's result
pub record PartView : Type 0 where
  pub texts : List SplitDocuments
  pub part : ℕ
  pub parts : ℕ
  pub pairs : List Pair

-- the same texts, however often each stands
abbrev pub AreSameTexts : List SplitDocuments → List SplitDocuments → Type 0
AreSameTexts xs ys = (text : SplitDocuments) → Contains xs text ↔ Contains ys text

-- whether each text of the one list stands in the other
abbrev pub are_among : List SplitDocuments → List SplitDocuments → Bool
are_among xs ys = list_all (λ text. list_any (same_text text) ys) xs

-- whether the lists have the same texts
abbrev pub same_texts : List SplitDocuments → List SplitDocuments → Bool
same_texts xs ys = are_among xs ys && are_among ys xs
