-- The headline, of whatever a master keeps.
use Rattle.std.proofs.Common.{◌≡◌, ℕ, ◌<◌, ◌∙◌, Bool, true, false, cond, length, List, refl, sym, subst}
use Rattle.std.proofs.Common.{arith}
use Rattle.std.proofs.lemmas.Bool.{false≢true}
use Rattle.std.proofs.lemmas.List.Folds.{list_all_at}
use Rattle.word_map.specs.Entries.{EntryView}
use Rattle.shuffle_reduce.specs.Gather.{IsPairOfResults}
use Rattle.shuffle_reduce.specs.Indexed.{HasMissing, IsIndexOf, IsIndexOfPairs, count_of}
use Rattle.shuffle_reduce.proofs.IndexLemmas.{pairs_of_all_parts}
use Rattle.shuffle_reduce.proofs.OneIndex.{have_one_index}
use Rattle.master_state.specs.declared.events.Event.{Event}
use Rattle.master_state.specs.declared.states.PartState.TheVariants as part
use Rattle.master_state.specs.Tests.{all_parts_done, part_at, part_is_done}
use Rattle.master_state.specs.Steps.{IsLegal}
use Rattle.master_state.specs.Jobs.{IsKept, Job}
use Rattle.master_state.specs.Headline.{AreBestWaves, HasRightIndex, Headline}
use Rattle.master_state.proofs.Promises.{every_wave_is_best}

are_best_waves : (job : Job) → IsKept job → AreBestWaves job
are_best_waves job kept before later first count cost is =
    every_wave_is_best job.setup before later first count cost job.state
    (subst (λ (history : List Event). IsLegal job.setup history job.state) is kept.legal)

some_or_open : (done : Bool) (n : ℕ) → n ≡ cond {A = ℕ} done 1 0 → n ≡ 0 → done ≡ false
some_or_open true n is none = absurd (omega (arith, is, none))
some_or_open false n is none = refl

-- each part has a result where all are done
pub none_missing : (job : Job) → IsKept job → all_parts_done job.state ≡ true →
    HasMissing job.results job.setup.cluster.parts → ⊥
none_missing job kept done missing =
    let r = missing.0 in
    let undone = some_or_open (part_is_done (part_at job.state r)) (count_of job.results r)
    (kept.results.one_each r) missing.2 in
    let inside : r < length job.state.parts = omega (arith, missing.1, kept.tidy.parts) in
    false≢true (sym (list_all_at part_is_done job.state.parts r part.Pending inside undone) ∙ done)

-- the pairs of the results are those of the texts
index_of_texts : (job : Job) → IsKept job → all_parts_done job.state ≡ true → (entries : List EntryView) →
    IsIndexOfPairs (IsPairOfResults job.results) entries → IsIndexOf job.setup.cluster.texts entries
index_of_texts job kept done entries made =
    record {
      words = made.words;
      rising = made.rising;
      some = made.some;
      exact = pairs_of_all_parts job.setup.cluster.texts job.results job.setup.cluster.parts
          kept.whole.some_parts (record {
            members = made.exact;
            results_are = λ k d inside. (kept.results.each k d inside).merged;
          })
          (λ k d inside. (kept.results.each k d inside).texts)
          (λ k d inside. (kept.results.each k d inside).parts)
          (none_missing job kept done);
    }

has_right_index : (job : Job) → IsKept job → HasRightIndex job
has_right_index job kept done entries made =
    let index = index_of_texts job kept done entries made in
    record {
      index = index;
      only = λ others is. have_one_index job.setup.cluster.texts others entries is index;
    }

pub headline : Headline
headline job kept = record { waves = are_best_waves job kept; index = has_right_index job kept }
