-- What holds of the machine, for whoever sees its calls alone. The functions of `laws` prove each.
use Rattle.std.specs.Prelude.{ℕ, ◌≡◌, List, [], ◌∷◌, ◌++◌, ◌≤◌, Option, Some, None, length}
use Rattle.std.specs.Prelude.{slice_index_or, true}
use Rattle.word_map.specs.Runs.{MapView}
use Rattle.shuffle_reduce.specs.Merged.{PartView, AreSameTexts}
use Rattle.wave_problem.specs.Wave.{worker_at}
use Rattle.master_state.specs.declared.answers.Why.TheVariants.{OldAttempt, WrongInput}
use Rattle.master_state.specs.declared.events.Event.{Event}
use Rattle.master_state.specs.declared.events.Event.TheVariants as events
use Rattle.master_state.specs.declared.states.Attempt.{Attempt}
use Rattle.master_state.specs.declared.states.Work.TheVariants as works
use Rattle.master_state.specs.declared.states.SplitState.TheVariants.{Running}
use Rattle.master_state.specs.States.{Setup, State, IsWhole, AreAllowed, opening, start_of}
use Rattle.master_state.specs.Tests.{runs, split_at}
use Rattle.master_state.specs.Refusals.{Call, MapDone, MapFailed, Withdraw, Die, PartDone, refusal}
use Rattle.master_state.specs.Refusals.{split_text}
use Rattle.master_state.specs.Changes.{after}
use Rattle.master_state.specs.Steps.{Leads, IsAhead, IsLegal, IsWave, problem_of}
use Rattle.master_state.specs.Tidy.{IsTidy}
use Rattle.master_state.specs.Jobs.{Job, IsAccepted, IsCommitted, IsCommittedAhead, IsKept}
use Rattle.master_state.specs.declared.answers.Wave.{Wave}

-- every state that a legal history leads to is tidy
abbrev pub LegalStatesAreTidy : Type 0
LegalStatesAreTidy =
    (setup : Setup) (history : List Event) (s : State) → IsWhole setup.cluster →
    IsLegal setup history s → IsTidy setup s

-- what a master keeps, it keeps by every call that is accepted and by every wave, from the opening on
abbrev pub CallsKeep : Type 0
CallsKeep = (old new : Job) (call : Call) (place : ℕ) → IsKept old → IsAccepted old call place new →
    IsKept new

abbrev pub WavesKeep : Type 0
WavesKeep =
    (old new : Job) (plan : List (Option ℕ)) (wave : Wave) → IsKept old → IsCommitted old plan wave new →
    IsKept new

abbrev pub AheadsKeep : Type 0
AheadsKeep =
    (old new : Job) (asked : List ℕ) (plan starts : List (Option ℕ)) (wave : Wave) → IsKept old →
    IsCommittedAhead old asked plan starts wave new → IsKept new

abbrev pub OpeningIsKept : Type 0
OpeningIsKept =
    (setup : Setup) → IsWhole setup.cluster → AreAllowed setup.limits →
    IsKept (record { setup = setup; history = []; state = opening setup; results = [] })

-- what came before a wave leads to a state in which it is best, and from its change on the later events lead
-- to the last state
pub record IsWaveAmong (setup : Setup) (before later : List Event) (first count cost : ℕ)
    (last : State) : Type 0 where
  pub old : State
  pub new : State
  pub plan : List (Option ℕ)
  pub legal : IsLegal setup before old
  pub wave : IsWave setup old first count cost plan new
  pub leads : Leads setup new later last

abbrev pub EveryWaveIsBest : Type 0
EveryWaveIsBest =
    (setup : Setup) (before later : List Event) (first count cost : ℕ) (last : State) →
    IsLegal setup (before ++ events.Wave first count cost ∷ later) last →
    IsWaveAmong setup before later first count cost last

-- what came before the heads of a plan ahead leads to a state in which they are heads of a best plan, and from
-- their change on the later events lead to the last state
pub record IsAheadAmong (setup : Setup) (before later : List Event) (first count cost : ℕ)
    (last : State) : Type 0 where
  pub old : State
  pub new : State
  pub asked : List ℕ
  pub plan : List (Option ℕ)
  pub starts : List (Option ℕ)
  pub legal : IsLegal setup before old
  pub ahead : IsAhead setup old first count cost asked plan starts new
  pub leads : Leads setup new later last

abbrev pub EveryAheadIsOfABestPlan : Type 0
EveryAheadIsOfABestPlan =
    (setup : Setup) (before later : List Event) (first count cost : ℕ) (last : State) →
    IsLegal setup (before ++ events.Ahead first count cost ∷ later) last →
    IsAheadAmong setup before later first count cost last

-- where no worker is asked to have more places than free slots, the heads are a wave
abbrev pub AheadOntoFreeSlotsIsAWave : Type 0
AheadOntoFreeSlotsIsAWave =
    (setup : Setup) (old new : State) (first count cost : ℕ) (asked : List ℕ)
    (plan starts : List (Option ℕ)) →
    ((w : ℕ) → slice_index_or asked w 0 ≤ (worker_at (problem_of setup old) w).free) →
    length starts ≡ length plan →
    IsAhead setup old first count cost asked plan starts new →
    IsWave setup old first count cost starts new

-- a result is never refused for its input where it was made as its start told: of the split's text
abbrev pub ResultsAsToldAreRight : Type 0
ResultsAsToldAreRight =
    (setup : Setup) (s : State) (a split w : ℕ) (result : MapView) → IsTidy setup s →
    start_of s a ≡ Some (record { work = works.Split split; worker = w }) →
    result.text ≡ split_text setup split → result.parts ≡ setup.cluster.parts →
    refusal setup s (MapDone a result) ≡ Some WrongInput → ⊥

-- or of the part and all texts
abbrev pub PartsAsToldAreRight : Type 0
PartsAsToldAreRight =
    (setup : Setup) (s : State) (a r w : ℕ) (result : PartView) → IsTidy setup s →
    start_of s a ≡ Some (record { work = works.Part r; worker = w }) →
    result.part ≡ r → result.parts ≡ setup.cluster.parts → AreSameTexts result.texts setup.cluster.texts →
    refusal setup s (PartDone a result) ≡ Some WrongInput → ⊥

-- once a split is done, the result of another attempt of it is old
abbrev pub SecondResultsAreOld : Type 0
SecondResultsAreOld =
    (setup : Setup) (s : State) (split a b : ℕ) (result other : MapView) → IsTidy setup s →
    runs a (split_at s split) ≡ true → runs b (split_at s split) ≡ true →
    refusal setup (after s (MapDone a result)) (MapDone b other) ≡ Some OldAttempt

-- where one of two attempts of a split fails, is withdrawn or dies, the other goes on alone
pub record GoesOnAlone (s : State) (split : ℕ) (lost other : Attempt) : Type 0 where
  pub failed : split_at (after s (MapFailed lost.number)) split ≡ Running other None
  pub withdrawn : split_at (after s (Withdraw lost.number)) split ≡ Running other None
  pub died : split_at (after s (Die lost.worker)) split ≡ Running other None

abbrev pub TheOtherGoesOn : Type 0
TheOtherGoesOn =
    (setup : Setup) (s : State) (split : ℕ) (one other : Attempt) → IsTidy setup s →
    split_at s split ≡ Running one (Some other) →
    GoesOnAlone s split one other × GoesOnAlone s split other one
