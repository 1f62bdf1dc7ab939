-- A text for each list of documents, one list more.
use Rattle.std.proofs.Common.{ℕ, List, ◌++◌, ◌≡◌, ◌≤◌, Vec, arith, length, length-append, map}
use Rattle.std.specs.List.{enumerate_from}
use Rattle.std.specs.declared.alloc.Global.{Global}
use Rattle.std.specs.declared.sync.Arc.{Arc}
use Rattle.std.proofs.lemmas.List.{length-map}
use Rattle.std.proofs.lemmas.List.FromFn.{length-enumerate_from}
use Rattle.word_map.specs.Texts.{SplitDocuments}
use Rattle.word_map.specs.declared.text.Document.{Document}
use Rattle.shuffle_reduce.specs.Gather.{values_of}
use Rattle.script_text.specs.Documents.{text_of_split}
use Rattle.script_text.proofs.Gathering.{items_of}

-- the texts of these lists, from this number on
abbrev pub texts_from : ℕ → List (Vec Document Global) → List SplitDocuments
texts_from n lists = map text_of_split (enumerate_from n (items_of lists))

pub length-texts_from : (n : ℕ) (lists : List (Vec Document Global))
    → length (texts_from n lists) ≡ length lists
length-texts_from n lists = grind (arith, length-map, items_of, length-enumerate_from)

-- the texts that are made are those of the lists but for those that are left
abbrev pub AreShared : List (Arc SplitDocuments Global) → List (Vec Document Global)
    → List (Vec Document Global) → Type 0
AreShared made left lists = values_of made ++ texts_from (length made) left ≡ texts_from 0 lists

pub shared_few : (made : List (Arc SplitDocuments Global)) (left lists : List (Vec Document Global))
    → AreShared made left lists → length made ≤ length lists
shared_few made left lists shared = grind (arith, length-append, length-map, length-texts_from)
