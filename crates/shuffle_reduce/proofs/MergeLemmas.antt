-- What one more run or result adds, and what has been gathered in the end.
use Rattle.std.proofs.Common.{◌≡◌, ℕ, ◌+◌, ◌<◌, List, [], ◌∷◌, ◌++◌, length, get_or, take, inl, inr, ◌⊎◌}
use Rattle.std.proofs.Common.{⊎_elim, sym, ap, ◌∙◌, subst}
use Rattle.std.specs.Prelude.{◌↔◌, Contains, Any}
use Rattle.std.proofs.lemmas.List.{take_more}
use Rattle.std.proofs.lemmas.List.Elements.{All-push, All-contains}
use Rattle.std.specs.Arc.{arc_value}
use Rattle.std.specs.declared.alloc.Global.{Global}
use Rattle.std.specs.declared.sync.Arc.{Arc}
use Rattle.word_map.specs.Words.{part_of}
use Rattle.word_map.specs.Texts.{Pair, IsPairOf}
use Rattle.word_map.specs.Runs.{RunView, IsRunOf}
use Rattle.word_map.specs.Entries.{EntryView, AreEntries, pairs_of_index}
use Rattle.word_map.proofs.EntryLemmas.{pairs_of_entries_rise}
use Rattle.word_map.proofs.PairLemmas.{any_push_cases, any_push_old, any_push_new, any_from_member}
use Rattle.word_map.proofs.PairLemmas.{member_from_any, any_map, any_from_map}
use Rattle.shuffle_reduce.specs.Merged.{IsPairOfTexts, IsPartOf, PartView}
use Rattle.shuffle_reduce.specs.Gather.{AreOfPart, ArePairsOfRuns, GathersRuns, GathersResults, texts_of_runs}

-- one more gives its pairs
pub members_of_more : {X : Type 0} (f : X → List Pair) (xs : List X) (x : X) (pairs new : List Pair)
    (pair : Pair) → Contains pairs pair ↔ Any (λ (y : X). Contains (f y) pair) xs →
    (Contains new pair ↔ (Contains pairs pair ⊎ Contains (f x) pair)) →
    Contains new pair ↔ Any (λ (y : X). Contains (f y) pair) (xs ++ x ∷ [])
members_of_more {X} f xs x pairs new pair before more = (
  (λ h. ⊎_elim
      (λ old. any_push_old (λ (y : X). Contains (f y) pair) xs x (before.0 old))
      (λ this. any_push_new (λ (y : X). Contains (f y) pair) xs x this)
      (more.0 h)),
  (λ h. more.1 (⊎_elim
      (λ old. inl (before.1 old))
      (λ this. inr this)
      (any_push_cases (λ (y : X). Contains (f y) pair) xs x h))),
)

-- what a run keeps
abbrev RunIs : Arc RunView Global → Type 0
RunIs run = IsRunOf (arc_value run).text.documents (arc_value run).part (arc_value run).parts
    (arc_value run).pairs

-- the pairs of one more run
pub gathers_one_more_run : (runs : List (Arc RunView Global))
    (i : ℕ) {run : Arc RunView Global} {pairs new : List Pair} → i < length runs → run ≡ get_or runs i run →
    GathersRuns (take i runs) pairs → RunIs run → ((pair : Pair) →
    Contains new pair ↔ (Contains pairs pair ⊎ Contains (arc_value run).pairs pair)) →
    GathersRuns (take (i + 1) runs) new
gathers_one_more_run runs i {run} {pairs} {new} inside is before own adds =
    let more : take (i + 1) runs ≡ take i runs ++ run ∷ [] = take_more runs i run inside
    ∙ ap (λ r. take i runs ++ r ∷ []) (sym is) in
    subst (λ rs. GathersRuns rs new) (sym more) (record {
      members = λ pair. members_of_more (λ (r : Arc RunView Global). (arc_value r).pairs)
          (take i runs) run pairs new pair (before.members pair) (adds pair);
      runs_are = All-push RunIs (take i runs) run before.runs_are own;
    })

-- the pairs of one more result
pub gathers_one_more_result : (results : List PartView) (i : ℕ) {part : PartView} {pairs new : List Pair} →
    i < length results → part ≡ get_or results i part → GathersResults (take i results) pairs →
    IsPartOf part.texts part.part part.parts part.pairs →
    ((pair : Pair) → Contains new pair ↔ (Contains pairs pair ⊎ Contains part.pairs pair)) →
    GathersResults (take (i + 1) results) new
gathers_one_more_result results i {part} {pairs} {new} inside is before own adds =
    let more : take (i + 1) results ≡ take i results ++ part ∷ [] = take_more results i part inside
    ∙ ap (λ r. take i results ++ r ∷ []) (sym is) in
    subst (λ rs. GathersResults rs new) (sym more) (record {
      members = λ pair. members_of_more (λ (r : PartView). r.pairs) (take i results) part pairs new pair
          (before.members pair) (adds pair);
      results_are = All-push (λ (r : PartView). IsPartOf r.texts r.part r.parts r.pairs)
          (take i results) part before.results_are own;
    })

-- the pairs of the runs of a part are those of their texts whose words belong to it
pairs_of_runs : {runs : List (Arc RunView Global)} {part parts : ℕ} {pairs : List Pair} →
    GathersRuns runs pairs → AreOfPart runs part parts → (pair : Pair) →
    Contains pairs pair ↔ (IsPairOfTexts (texts_of_runs runs) pair × (part_of pair.word parts ≡ part))
pairs_of_runs {runs} {part} {parts} {pairs} gathers same pair = (
  (λ h.
      let m = member_from_any (λ (run : Arc RunView Global). Contains (arc_value run).pairs pair) runs
      ((gathers.members pair).0 h) in
      let fact = ((All-contains RunIs runs m.0 gathers.runs_are m.1).exact pair).0 m.2 in
      let of_part = All-contains (λ (run : Arc RunView Global). ((arc_value run).part ≡ part) ×
      ((arc_value run).parts ≡ parts)) runs m.0 same m.1 in (
        any_map (λ (run : Arc RunView Global). (arc_value run).text)
            (λ text. IsPairOf text.documents pair) runs
            (any_from_member (λ (run : Arc RunView Global). IsPairOf
            (arc_value run).text.documents pair) runs m.0 m.1 fact.0),
        sym (ap (part_of pair.word) of_part.1) ∙ fact.1 ∙ of_part.0,
      )),
  (λ h.
      let m = member_from_any (λ (run : Arc RunView Global). IsPairOf
      (arc_value run).text.documents pair) runs (any_from_map
      (λ (run : Arc RunView Global). (arc_value run).text)
      (λ text. IsPairOf text.documents pair) runs h.0) in
      let of_part = All-contains (λ (run : Arc RunView Global). ((arc_value run).part ≡ part) ×
      ((arc_value run).parts ≡ parts)) runs m.0 same m.1 in
      (gathers.members pair).1 (any_from_member (λ (run : Arc RunView Global). Contains
      (arc_value run).pairs pair) runs m.0 m.1
      (((All-contains RunIs runs m.0 gathers.runs_are m.1).exact pair).1
      (m.2, ap (part_of pair.word) of_part.1 ∙ h.1 ∙ sym of_part.0)))),
)

-- entries with the pairs that were gathered have those of the runs
pub pairs_from_entries : {runs : List (Arc RunView Global)} (table entries : List EntryView) →
    GathersRuns runs (pairs_of_index table) → AreEntries entries →
    ((pair : Pair) → Contains (pairs_of_index entries) pair ↔ Contains (pairs_of_index table) pair) →
    ArePairsOfRuns runs (pairs_of_index entries)
pairs_from_entries table entries gathers are same = record {
  rising = pairs_of_entries_rise entries are.words are.documents;
  exact = λ pair. (
    (λ h. (gathers.members pair).0 ((same pair).0 h)),
    (λ h. (same pair).1 ((gathers.members pair).1 h)),
  );
}

-- and those of the texts for the part
pub part_from_entries : {runs : List (Arc RunView Global)} {part parts : ℕ}
    (table entries : List EntryView) → GathersRuns runs (pairs_of_index table) → AreOfPart runs part parts →
    AreEntries entries → ((pair : Pair) → Contains (pairs_of_index entries) pair ↔ Contains
    (pairs_of_index table) pair) → IsPartOf (texts_of_runs runs) part parts (pairs_of_index entries)
part_from_entries table entries gathers of_part are same = record {
  rising = pairs_of_entries_rise entries are.words are.documents;
  exact = λ pair. (
    (λ h. (pairs_of_runs gathers of_part pair).0 ((same pair).0 h)),
    (λ h. (same pair).1 ((pairs_of_runs gathers of_part pair).1 h)),
  );
}
