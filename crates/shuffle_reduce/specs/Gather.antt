-- The texts of runs, and the pairs that runs or results have together.
pub use Rattle.word_map.specs.Texts.{values_of}
use Rattle.std.specs.Prelude.{◌≡◌, ◌↔◌, ℕ, List, map, All, Any, Contains}
use Rattle.std.specs.Arc.{arc_value}
use Rattle.std.specs.declared.alloc.Global.{Global}
use Rattle.std.specs.declared.sync.Arc.{Arc}
use Rattle.word_map.specs.Texts.{SplitDocuments, Pair}
use Rattle.word_map.specs.Runs.{RunView, IsRunOf, AreRisingPairs}
use Rattle.shuffle_reduce.specs.Merged.{PartView, IsPartOf}

-- each run is of this part and this number of parts
abbrev pub AreOfPart : List (Arc RunView Global) → ℕ → ℕ → Type 0
AreOfPart runs part parts =
    All (λ (run : Arc RunView Global). ((arc_value run).part ≡ part) × ((arc_value run).parts ≡ parts)) runs

-- the texts of the runs
abbrev pub texts_of_runs : List (Arc RunView Global) → List SplitDocuments
texts_of_runs runs = map (λ (run : Arc RunView Global). (arc_value run).text) runs

-- one of the runs has the pair
abbrev pub IsPairOfRuns : List (Arc RunView Global) → Pair → Type 0
IsPairOfRuns runs pair = Any (λ (run : Arc RunView Global). Contains (arc_value run).pairs pair) runs

-- the pairs are those of the runs, rising, so each stands once
pub record ArePairsOfRuns (runs : List (Arc RunView Global)) (pairs : List Pair) : Type 0 where
  pub rising : AreRisingPairs pairs
  pub exact : (pair : Pair) → Contains pairs pair ↔ IsPairOfRuns runs pair

-- the pairs of the runs in any order, each run with the pairs of its text for its part
pub record GathersRuns (runs : List (Arc RunView Global)) (pairs : List Pair) : Type 0 where
  pub members : (pair : Pair) → Contains pairs pair ↔ IsPairOfRuns runs pair
  pub runs_are : All (λ (run : Arc RunView Global). IsRunOf (arc_value run).text.documents
      (arc_value run).part (arc_value run).parts (arc_value run).pairs) runs

-- one of the results has the pair
abbrev pub IsPairOfResults : List PartView → Pair → Type 0
IsPairOfResults results pair = Any (λ (result : PartView). Contains result.pairs pair) results

-- the pairs of the results in any order, each result with the pairs of its texts for its part
pub record GathersResults (results : List PartView) (pairs : List Pair) : Type 0 where
  pub members : (pair : Pair) → Contains pairs pair ↔ IsPairOfResults results pair
  pub results_are : All (λ (result : PartView). IsPartOf result.texts result.part result.parts result.pairs)
      results
