-- The headline: what holds of a job after any list of sweeps, deaths, joins, completions, failures and
-- replica changes.
use Rattle.std.specs.Prelude.{ℕ, ◌≡◌, ◌++◌, ◌∷◌, List, true}
use Rattle.word_map.specs.Entries.{EntryView}
use Rattle.word_map.specs.Texts.{SplitDocuments}
use Rattle.shuffle_reduce.specs.Gather.{IsPairOfResults}
use Rattle.shuffle_reduce.specs.Indexed.{IsIndexOf, IsIndexOfPairs}
use Rattle.master_state.specs.declared.events.Event.{Event}
use Rattle.master_state.specs.declared.events.Event.TheVariants as events
use Rattle.master_state.specs.Tests.{all_parts_done}
use Rattle.master_state.specs.Jobs.{Job, IsKept}
use Rattle.master_state.specs.Laws.{IsWaveAmong}

-- Each wave, whatever came before it: it starts as many pending splits as any admissible assignment of the
-- state that it changes, at the least byte-distance among those that start as many (`best` of its step),
-- which its prices certify (`priced`).
abbrev pub AreBestWaves : Job → Type 0
AreBestWaves job =
    (before later : List Event) (first count cost : ℕ) →
    job.history ≡ before ++ events.Wave first count cost ∷ later →
    IsWaveAmong job.setup before later first count cost job.state

-- the entries are what one sequential execution makes of the texts: an index of them, of which there is no other
pub record IsSequentialIndex (texts : List SplitDocuments) (entries : List EntryView) : Type 0 where
  pub index : IsIndexOf texts entries
  pub only : (others : List EntryView) → IsIndexOf texts others → others ≡ entries

-- Where the job is done, its index, which has the pairs of the results of its parts, is that of one sequential
-- execution of its texts.
abbrev pub HasRightIndex : Job → Type 0
HasRightIndex job =
    all_parts_done job.state ≡ true → (entries : List EntryView) →
    IsIndexOfPairs (IsPairOfResults job.results) entries →
    IsSequentialIndex job.setup.cluster.texts entries

pub record HasHeadline (job : Job) : Type 0 where
  pub waves : AreBestWaves job
  pub index : HasRightIndex job

-- it holds of whatever a master keeps
abbrev pub Headline : Type 0
Headline = (job : Job) → IsKept job → HasHeadline job
