-- What a master keeps of the splits that are done, for the reply of a reduce start.
use Rattle.std.proofs.Common.{◌≡◌, ℕ, ◌+◌, ◌<◌, List, [], ◌∷◌, ◌++◌, length, map, take, get_or, Some, true}
use Rattle.std.proofs.Common.{refl, sym, ap, ◌∙◌}
use Rattle.std.proofs.lemmas.Bool.{false≢true}
use Rattle.std.specs.Arc.{arc_value}
use Rattle.std.specs.declared.alloc.Global.{Global}
use Rattle.std.specs.declared.sync.Arc.{Arc}
use Rattle.std.proofs.lemmas.List.{map-append, take_more}
use Rattle.std.proofs.lemmas.List.Elements.{All-push}
use Rattle.shuffle_reduce.specs.Gather.{AreOfPart, texts_of_runs}
use Rattle.std.specs.Prelude.{slice_index_or}
use Rattle.std.proofs.lemmas.Option.{slice_get-get_or}
use Rattle.word_map.specs.Texts.{SplitDocuments}
use Rattle.word_map.specs.Runs.{MapView, RunView}
use Rattle.master_state.specs.declared.states.Attempt.{Attempt}
use Rattle.master_state.specs.declared.states.Limits.{Limits}
use Rattle.master_state.specs.States.{Cluster}
use Rattle.master_state.specs.Tests.{is_done}
use Rattle.master_tables.specs.declared.entries.SplitEntry.{SplitEntry}
use Rattle.master_tables.specs.declared.entries.SplitEntry.TheVariants.{Pending, Running, Done}
use Rattle.master_tables.specs.Entries.{shown_as}
use Rattle.master_tables.specs.Kept.{AreOfSplits, IsOfSplit}

abbrev pub AreMadeFor : Cluster → List SplitEntry → Type 0
AreMadeFor cluster entries =
    (limits : Limits) → AreOfSplits (record { cluster = cluster; limits = limits }) entries

-- a result that is kept is of its split's text
pub made_for : (cluster : Cluster) (entries : List SplitEntry) (i : ℕ) (entry : SplitEntry)
    (attempt : Attempt) (made : MapView) → AreMadeFor cluster entries → i < length entries →
    entry ≡ get_or entries i entry → entry ≡ Done attempt made →
    IsOfSplit (record { cluster = cluster; limits = record { events = 0; attempts = 0; sweeps = 0 } }) i made
made_for cluster entries i entry attempt made of inside at is =
    of (record { events = 0; attempts = 0; sweeps = 0 }) i attempt made
    (slice_get-get_or entries i entry inside ∙ ap Some (sym at ∙ is))

-- one run more of the reply
pub run_replied : (cluster : Cluster) (runs later : List (Arc RunView Global)) (part i : ℕ)
    (run : Arc RunView Global) → later ≡ runs ++ run ∷ [] → i < length cluster.texts →
    (arc_value run).part ≡ part → (arc_value run).parts ≡ cluster.parts →
    (arc_value run).text ≡ slice_index_or cluster.texts i (record { split = i; documents = [] }) →
    AreOfPart runs part cluster.parts → texts_of_runs runs ≡ take i cluster.texts →
    AreOfPart later part cluster.parts × (texts_of_runs later ≡ take (i + 1) cluster.texts)
run_replied cluster runs later part i run is inside same_part same_parts same_text of_part texts =
    let none : SplitDocuments = record { split = i; documents = [] } in
    let text : Arc RunView Global → SplitDocuments = λ one. (arc_value one).text in (
      rw is (All-push (λ (one : Arc RunView Global). ((arc_value one).part ≡ part)
          × ((arc_value one).parts ≡ cluster.parts)) runs run of_part (same_part, same_parts)),
      ap (map text) is ∙ map-append text runs (run ∷ []) ∙ ap (λ xs. xs ++ text run ∷ []) texts
          ∙ ap (λ x. take i cluster.texts ++ x ∷ []) same_text ∙ sym (take_more cluster.texts i none inside),
    )

-- a split that is done has kept a result
pub not_done : (entry : SplitEntry) → is_done (shown_as entry) ≡ true →
    ((attempt : Attempt) (made : MapView) → entry ≡ Done attempt made → ⊥) → ⊥
not_done Pending done none = false≢true done
not_done (Running attempt other) done none = false≢true done
not_done (Done attempt made) done none = none attempt made refl
