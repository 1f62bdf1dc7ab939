-- Plans ahead that are made and started in one hold of the lock.
use Rattle.std.specs.Prelude.{ℕ, ◌≡◌, ◌-◌, ◌⊎◌, true, false, List, Option, Some, None, Ok, Err, length}
use Rattle.std.specs.Prelude.{slice_get}
use Rattle.std.specs.declared.result.Result.{Result}
use Rattle.master_state.specs.declared.events.Event.TheVariants as events
use Rattle.master_state.specs.States.{Setup}
use Rattle.master_state.specs.Jobs.{IsCommittedAhead, Job, LacksRoomForHeads}
use Rattle.hand_ledger.specs.Hands.{HandValue, has_room}
use Rattle.shared_master.specs.Held.{IsMasterOf}
use Rattle.shared_master.specs.Steps.{IsOwn}
use Rattle.shared_master.specs.Waves.{AreKeptAs, AreShared, ahead_event, noted_wave}
use Rattle.shared_master.specs.declared.waves.SharedWave.{SharedWave}
use Rattle.shared_master.specs.declared.waves.WaveError.{WaveError}
use Rattle.shared_master.specs.declared.waves.WaveError.TheVariants.{HistoryFull, Memory, StrangeHand}

-- the last event is a plan ahead, so what its heads left waits for a slot
pub record IsWaiting (job : Job) : Type 0 where
  pub first : ℕ
  pub count : ℕ
  pub cost : ℕ
  pub last : slice_get job.history (length job.history - 1) ≡ Some (events.Ahead first count cost)

-- the heads of a plan onto these queues were started under the lock
pub record IsSharedAhead
    (old : Job) (hand : HandValue) (asked : List ℕ) (plan starts : List (Option ℕ)) (shared : SharedWave)
    (new : Job) (after : HandValue) : Type 0 where
  pub committed : IsCommittedAhead old asked plan starts shared.wave new
  pub shares : AreShared old hand (ahead_event shared.wave) starts shared new after

-- Why none is started, in the order of the tests: StrangeHand, HistoryFull for want of room in the hand for
-- as many starts as there are splits, Memory, HistoryFull for want of room in the history.
abbrev pub IsUnqueued : Job → HandValue → List ℕ → WaveError → Type 0
IsUnqueued job hand asked StrangeHand = IsOwn job hand → ⊥
IsUnqueued job hand asked HistoryFull =
    IsOwn job hand × (IsWaiting job → ⊥)
    × ((has_room hand 0 (length job.setup.cluster.splits) ≡ false) ⊎ LacksRoomForHeads job asked)
IsUnqueued job hand asked Memory =
    IsOwn job hand × (IsWaiting job → ⊥) × (has_room hand 0 (length job.setup.cluster.splits) ≡ true)

-- what planning ahead in one hold answers: nothing exactly where the last event is a plan ahead
abbrev pub QueuesAs :
    Job → HandValue → List ℕ → Result (Option SharedWave) WaveError → Job → HandValue → Type 0
QueuesAs old hand asked (Ok (Some shared)) new after =
    (IsWaiting old → ⊥)
    × ((plan : List (Option ℕ)) × (starts : List (Option ℕ))
    × IsSharedAhead old hand asked plan starts shared new after)
QueuesAs old hand asked (Ok None) new after = IsOwn old hand × IsWaiting old × (new ≡ old) × (after ≡ hand)
QueuesAs old hand asked (Err e) new after =
    IsUnqueued old hand asked e × (new ≡ old)
    × (after ≡ noted_wave (length old.setup.cluster.splits) hand e)

-- a master of this job answered so, in one hold of the lock
pub record IsAheadStepOf
    (setup : Setup) (hand : HandValue) (asked : List ℕ) (given : Result (Option SharedWave) WaveError)
    (after : HandValue) : Type 0 where
  pub old : Job
  pub new : Job
  pub of_job : IsMasterOf setup old
  pub step : QueuesAs old hand asked given new after

-- what the caller sees: the starts are kept in the hand, or only its notes may change
abbrev pub AheadsAs : Setup → HandValue → Result (Option SharedWave) WaveError → HandValue → Type 0
AheadsAs setup hand (Ok (Some shared)) after = AreKeptAs setup hand (ahead_event shared.wave) shared after
AheadsAs setup hand (Ok None) after = after ≡ hand
AheadsAs setup hand (Err e) after = after ≡ noted_wave (length setup.cluster.splits) hand e
