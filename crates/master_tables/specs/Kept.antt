-- What is kept of the splits that are done.
use Rattle.std.specs.Prelude.{ℕ, ◌≡◌, List, Some, slice_get}
use Rattle.word_map.specs.Runs.{MapView}
use Rattle.master_state.specs.declared.states.Attempt.{Attempt}
use Rattle.master_state.specs.States.{Setup}
use Rattle.master_state.specs.Refusals.{split_text}
use Rattle.master_tables.specs.declared.entries.SplitEntry.{SplitEntry}
use Rattle.master_tables.specs.declared.entries.SplitEntry.TheVariants.{Done}

-- the result is of the split's text and of the job's number of parts
pub record IsOfSplit (setup : Setup) (split : ℕ) (result : MapView) : Type 0 where
  pub text : result.text ≡ split_text setup split
  pub parts : result.parts ≡ setup.cluster.parts

-- so is the kept result of each done split
abbrev pub AreOfSplits : Setup → List SplitEntry → Type 0
AreOfSplits setup entries =
    (split : ℕ) (attempt : Attempt) (result : MapView) →
    slice_get entries split ≡ Some (Done attempt result) →
    IsOfSplit setup split result
