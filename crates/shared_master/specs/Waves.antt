-- Waves that are planned outside the lock and committed under it.
use Rattle.std.specs.Prelude.{ℕ, ◌≡◌, ◌+◌, ◌-◌, ◌^◌, ◌<◌, ◌≤◌, ◌⊎◌, ◌&&◌, not, Bool, true, false, List, [], Option, Some}
use Rattle.std.specs.Prelude.{None, Ok, Err, length, drop, vec_capacity, All}
use Rattle.std.specs.declared.result.Result.{Result}
use Rattle.wave_problem.specs.Wave.{Wave}
use Rattle.wave_problem.specs.Assignment.{IsBest, pairs_of}
use Rattle.flow_network.specs.declared.kinds.NetworkKind.TheVariants.{Racks}
use Rattle.wave_planner.specs.Planned.{IsMadeOver}
use Rattle.price_certificate.specs.Certificate.{Certifies, IsFirstFailure}
use Rattle.price_certificate.specs.PriceList.{PriceList}
use Rattle.master_state.specs.declared.answers.Wave as answers
use Rattle.master_state.specs.declared.answers.Why.{Why}
use Rattle.master_state.specs.declared.answers.Why.TheVariants as whys
use Rattle.master_state.specs.declared.events.Event.{Event}
use Rattle.master_state.specs.declared.events.Event.TheVariants as events
use Rattle.master_state.specs.declared.states.Start.{Start}
use Rattle.master_state.specs.declared.states.Work.{Work}
use Rattle.master_state.specs.declared.states.Work.TheVariants as works
use Rattle.master_state.specs.States.{Setup}
use Rattle.master_state.specs.Jobs.{Job, IsCommitted, lacks_room, present}
use Rattle.master_state.specs.Refusals.{is_full}
use Rattle.master_state.specs.Steps.{problem_of}
use Rattle.master_core.specs.Starts.{HasSizesOf}
use Rattle.hand_ledger.specs.Hands.{HandValue, Kept, has_room, kept, last_place, noted, with_call}
use Rattle.shared_master.specs.Held.{IsMasterOf}
use Rattle.shared_master.specs.Steps.{IsOwn}
use Rattle.shared_master.specs.declared.waves.SharedWave.{SharedWave}
use Rattle.shared_master.specs.declared.waves.Solved.{Solved}
use Rattle.shared_master.specs.declared.waves.Uncommitted.{Uncommitted}
use Rattle.shared_master.specs.declared.waves.Uncommitted.TheVariants as uncommitted
use Rattle.shared_master.specs.declared.waves.WaveError.{WaveError}
use Rattle.shared_master.specs.declared.waves.WaveError.TheVariants.{HistoryFull, Memory, StrangeHand}

-- the reason of an error, as a hand notes it
abbrev pub why_of : WaveError → Why
why_of Memory = whys.Memory
why_of HistoryFull = whys.HistoryFull
why_of StrangeHand = whys.StrangeHand

-- The hand after a wave that came to nothing. It had room where it had as many starts left as there are
-- splits.
abbrev pub noted_wave : ℕ → HandValue → WaveError → HandValue
noted_wave splits hand error = noted hand (has_room hand 0 splits) (why_of error)

-- a place is left for an event, in the hand and in the history
abbrev pub has_place : Job → HandValue → Bool
has_place job hand = has_room hand 0 0 && not (is_full job.setup job.state)

-- and room for the starts of a plan
abbrev pub has_room_for : Job → HandValue → List (Option ℕ) → Bool
has_room_for job hand plan = has_room hand 0 (length (pairs_of plan)) && not (lacks_room job plan)

-- why no problem is taken, in the order of the tests: StrangeHand, HistoryFull, Memory
abbrev pub IsUnasked : Job → HandValue → WaveError → Type 0
IsUnasked job hand StrangeHand = IsOwn job hand → ⊥
IsUnasked job hand HistoryFull = IsOwn job hand × (has_place job hand ≡ false)
IsUnasked job hand Memory = IsOwn job hand × (has_place job hand ≡ true)

-- the problem is that of the state under the lock, and may be planned from
pub record IsAsked (job : Job) (hand : HandValue) (problem : Wave) : Type 0 where
  pub own : IsOwn job hand
  pub place : has_place job hand ≡ true
  pub present : problem ≡ problem_of job.setup job.state

-- why a plan is not committed, in the order of the tests: StrangeHand, HistoryFull, Memory, Stale
abbrev pub IsUncommitted : Job → HandValue → List (Option ℕ) → PriceList → Uncommitted → Type 0
IsUncommitted job hand plan prices (uncommitted.Refused StrangeHand) = IsOwn job hand → ⊥
IsUncommitted job hand plan prices (uncommitted.Refused HistoryFull) =
    IsOwn job hand × (has_room_for job hand plan ≡ false)
IsUncommitted job hand plan prices (uncommitted.Refused Memory) =
    IsOwn job hand × (has_room_for job hand plan ≡ true)
IsUncommitted job hand plan prices (uncommitted.Stale c) =
    IsOwn job hand × (has_room_for job hand plan ≡ true) × IsFirstFailure (present job plan prices) c

-- what is noted then: nothing where the plan was stale
abbrev pub noted_commit : ℕ → HandValue → Uncommitted → HandValue
noted_commit splits hand (uncommitted.Refused error) = noted_wave splits hand error
noted_commit splits hand (uncommitted.Stale c) = hand

-- the event of a wave, and that of a plan ahead
abbrev pub wave_event : answers.Wave → Event
wave_event wave = events.Wave wave.first wave.count wave.cost

abbrev pub ahead_event : answers.Wave → Event
ahead_event wave = events.Ahead wave.first wave.count wave.cost

-- starts as a hand keeps them with their event
abbrev pub kept_as : Event → SharedWave → Kept
kept_as event shared = kept shared.wave.place event [] shared.starts.items

-- a split of the job, and not a part
abbrev pub IsSplitOf : Setup → Work → Type 0
IsSplitOf setup (works.Split split) = split < length setup.cluster.splits
IsSplitOf setup (works.Part r) = ⊥

-- a map start: of one of the job's splits, on one of its workers
pub record IsMapStart (setup : Setup) (start : Start) : Type 0 where
  pub work : IsSplitOf setup start.work
  pub worker : start.worker < length setup.cluster.slots

-- the wave is the last event of a master: its starts are the last of all
pub record IsLastWave (job : Job) (wave : answers.Wave) : Type 0 where
  pub place : wave.place ≡ length job.history
  pub first : 0 < wave.first
  pub within : wave.first - 1 ≤ length job.state.starts
  pub count : length (drop (wave.first - 1) job.state.starts) ≡ wave.count

-- Starts were made under the lock: they are answered, and the hand, which had room, keeps them with their
-- event.
pub record AreShared
    (old : Job) (hand : HandValue) (event : Event) (plan : List (Option ℕ)) (shared : SharedWave) (new : Job)
    (after : HandValue) : Type 0 where
  pub own : IsOwn old hand
  pub room : has_room_for old hand plan ≡ true
  pub starts : shared.starts.items ≡ drop (shared.wave.first - 1) new.state.starts
  pub count : length shared.starts.items ≡ shared.wave.count
  pub maps : All (IsMapStart old.setup) shared.starts.items
  pub hand_is : after ≡ with_call hand (kept_as event shared)

-- The plan was committed under the lock: it is certified in the state that it changes.
pub record IsSharedWave
    (old : Job) (hand : HandValue) (plan : List (Option ℕ)) (prices : PriceList)
    (shared : SharedWave) (new : Job) (after : HandValue) : Type 0 where
  pub certified : Certifies (present old plan prices)
  pub committed : IsCommitted old plan shared.wave new
  pub shares : AreShared old hand (wave_event shared.wave) plan shared new after

-- what a commit under the lock answers
abbrev pub CommitsAs : Job → HandValue → List (Option ℕ) → PriceList →
    Result SharedWave Uncommitted → Job → HandValue → Type 0
CommitsAs old hand plan prices (Ok shared) new after = IsSharedWave old hand plan prices shared new after
CommitsAs old hand plan prices (Err e) new after =
    IsUncommitted old hand plan prices e × (new ≡ old) × (after ≡ noted_commit (length old.setup.cluster.splits) hand e)

-- why a wave that is planned and committed in one hold comes to nothing: it is never stale
abbrev pub IsUnplanned : Job → HandValue → WaveError → Type 0
IsUnplanned job hand StrangeHand = IsOwn job hand → ⊥
IsUnplanned job hand HistoryFull =
    IsOwn job hand
    × ((has_place job hand ≡ false)
    ⊎ ((plan : List (Option ℕ)) × IsBest (problem_of job.setup job.state) (pairs_of plan)
    × (has_room_for job hand plan ≡ false)))
IsUnplanned job hand Memory = IsOwn job hand × (has_place job hand ≡ true)

-- plan and prices were made over the network with racks, of the problem of this state
abbrev pub IsMadeIn : Job → List (Option ℕ) → PriceList → Type 0
IsMadeIn job plan prices = IsMadeOver Racks (problem_of job.setup job.state) plan prices

-- what planning and committing in one hold answers
abbrev pub PlansAs : Job → HandValue → Result SharedWave WaveError → Job → HandValue → Type 0
PlansAs old hand (Ok shared) new after =
    (plan : List (Option ℕ)) × (prices : PriceList) × IsMadeIn old plan prices
    × IsSharedWave old hand plan prices shared new after
PlansAs old hand (Err e) new after =
    IsUnplanned old hand e × (new ≡ old) × (after ≡ noted_wave (length old.setup.cluster.splits) hand e)

-- a master of this job planned and committed it so, in one hold of the lock
pub record IsWaveStepOf
    (setup : Setup) (hand : HandValue) (given : Result SharedWave WaveError) (after : HandValue)
    : Type 0 where
  pub old : Job
  pub new : Job
  pub of_job : IsMasterOf setup old
  pub step : PlansAs old hand given new after

-- plan and prices were made so in some state of the job
pub record IsMadeOf (setup : Setup) (plan : List (Option ℕ)) (prices : PriceList) : Type 0 where
  pub planned : Job
  pub of_job : IsMasterOf setup planned
  pub made : IsMadeIn planned plan prices

-- prices certified the wave in the state of a master of this job, which took it
pub record IsWaveOf (setup : Setup) (hand : HandValue) (shared : SharedWave) (after : HandValue)
    : Type 0 where
  pub old : Job
  pub new : Job
  pub of_job : IsMasterOf setup old
  pub plan : List (Option ℕ)
  pub prices : PriceList
  pub made : IsMadeOf setup plan prices
  pub wave : IsSharedWave old hand plan prices shared new after

-- what the caller of starts sees: they are kept with their event, above the hand's last call, and the hand
-- had room
pub record AreKeptAs
    (setup : Setup) (hand : HandValue) (event : Event) (shared : SharedWave) (after : HandValue)
    : Type 0 where
  pub hand_is : after ≡ with_call hand (kept_as event shared)
  pub above : last_place hand.calls < shared.wave.place
  pub room : has_room hand 0 (length shared.starts.items) ≡ true
  pub count : length shared.starts.items ≡ shared.wave.count
  pub few : shared.wave.first + length shared.starts.items < 2 ^ 32
  pub maps : All (IsMapStart setup) shared.starts.items

-- and the caller of a wave
pub record IsKeptWave (setup : Setup) (hand : HandValue) (shared : SharedWave) (after : HandValue)
    : Type 0 where
  pub hand_is : after ≡ with_call hand (kept_as (wave_event shared.wave) shared)
  pub above : last_place hand.calls < shared.wave.place
  pub room : has_room hand 0 (length shared.starts.items) ≡ true
  pub count : length shared.starts.items ≡ shared.wave.count
  pub few : shared.wave.first + length shared.starts.items < 2 ^ 32
  pub maps : All (IsMapStart setup) shared.starts.items
  pub of_job : IsWaveOf setup hand shared after

-- a plan that is best in some state of the job lacks room
pub record LacksRoom (setup : Setup) (job : Job) (hand : HandValue) : Type 0 where
  pub planned : Job
  pub of_job : IsMasterOf setup planned
  pub plan : List (Option ℕ)
  pub best : IsBest (problem_of planned.setup planned.state) (pairs_of plan)
  pub full : has_room_for job hand plan ≡ false

-- why a master of the job took none
abbrev pub IsUnwaved : Setup → Job → HandValue → WaveError → Type 0
IsUnwaved setup job hand StrangeHand = IsOwn job hand → ⊥
IsUnwaved setup job hand HistoryFull =
    IsOwn job hand × ((has_place job hand ≡ false) ⊎ LacksRoom setup job hand)
IsUnwaved setup job hand Memory = IsOwn job hand

-- and then only the notes change
pub record IsNoWaveOf (setup : Setup) (hand : HandValue) (error : WaveError) (after : HandValue)
    : Type 0 where
  pub job : Job
  pub of_job : IsMasterOf setup job
  pub why : IsUnwaved setup job hand error
  pub hand_is : after ≡ noted_wave (length setup.cluster.splits) hand error

-- a solution of the problem of some state of the job
pub record IsSolved (setup : Setup) (solved : Solved) : Type 0 where
  pub planned : Job
  pub of_job : IsMasterOf setup planned
  pub made : IsMadeIn planned solved.planned.plan.starts solved.planned.prices
  pub best : IsBest (problem_of planned.setup planned.state) (pairs_of solved.planned.plan.starts)
  pub fits : HasSizesOf setup solved.planned.plan solved.planned.prices
  pub starts : solved.starts.items ≡ []
  pub room : length (pairs_of solved.planned.plan.starts) ≤ vec_capacity solved.starts

abbrev pub SolvesAs : Setup → HandValue → Result Solved WaveError → HandValue → Type 0
SolvesAs setup hand (Ok solved) after = IsSolved setup solved × (after ≡ hand)
SolvesAs setup hand (Err e) after = IsNoWaveOf setup hand e after

abbrev pub WavesAs : Setup → HandValue → Result SharedWave WaveError → HandValue → Type 0
WavesAs setup hand (Ok shared) after = IsKeptWave setup hand shared after
WavesAs setup hand (Err e) after = IsNoWaveOf setup hand e after

-- after a turn without the lock there may be no answer yet
abbrev pub TurnsAs : Setup → HandValue → Result (Option SharedWave) WaveError → HandValue → Type 0
TurnsAs setup hand (Ok (Some shared)) after = IsKeptWave setup hand shared after
TurnsAs setup hand (Ok None) after = after ≡ hand
TurnsAs setup hand (Err e) after = IsNoWaveOf setup hand e after
