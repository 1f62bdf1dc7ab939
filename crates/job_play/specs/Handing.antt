-- Results that are handed in.
use Rattle.std.specs.Prelude.{ℕ, ◌≡◌, Some}
use Rattle.word_map.specs.Runs.{MapView}
use Rattle.shuffle_reduce.specs.Merged.{PartView, AreSameTexts}
use Rattle.master_state.specs.declared.states.Work.{Work}
use Rattle.master_state.specs.States.{State, start_of}
use Rattle.master_state.specs.Refusals.{MapDone, PartDone, split_text}
use Rattle.master_state.specs.Jobs.{Job, Answers, Plain}

-- the attempt was started for this work
abbrev pub IsStartedFor : State → ℕ → Work → Type 0
IsStartedFor s a work = (w : ℕ) × (start_of s a ≡ Some (record { work = work; worker = w }))

-- what is made from the text of the attempt's split is answered so
pub record HandsSplit (old : Job) (attempt split : ℕ) (given : Plain) (new : Job) : Type 0 where
  pub result : MapView
  pub text : result.text ≡ split_text old.setup split
  pub parts : result.parts ≡ old.setup.cluster.parts
  pub answers : Answers old (MapDone attempt result) given new

-- what is merged from a run of each text, for the attempt's part, is answered so
pub record HandsPart (old : Job) (attempt part : ℕ) (given : Plain) (new : Job) : Type 0 where
  pub result : PartView
  pub part_is : result.part ≡ part
  pub parts : result.parts ≡ old.setup.cluster.parts
  pub texts : AreSameTexts result.texts old.setup.cluster.texts
  pub answers : Answers old (PartDone attempt result) given new
