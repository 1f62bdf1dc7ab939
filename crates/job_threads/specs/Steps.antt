-- What a step of a thread may add to its hand, and to the lanes.
use Rattle.std.specs.Prelude.{ℕ, ◌+◌, ◌||◌, ◌≡◌, ◌⊎◌, Bool, true, false, List, [], ◌∷◌, ◌++◌}
use Rattle.std.specs.Prelude.{◌<◌, Option, Some, None, Ok, Err, slice_get, slice_index, slice_index_or}
use Rattle.std.specs.Prelude.{length, map, min, not, option_map, ◌*◌, ◌==◌, if◌then◌else◌}
use Rattle.std.specs.Arc.{arc_value}
use Rattle.std.specs.declared.alloc.Global.{Global}
use Rattle.std.specs.declared.sync.Arc.{Arc}
use Rattle.std.specs.declared.result.Result.{Result}
use Rattle.word_map.specs.Texts.{SplitDocuments}
use Rattle.lane_queue.specs.declared.order.Order.{Order}
use Rattle.lane_queue.specs.declared.order.Order.TheVariants as order
use Rattle.lane_queue.specs.Lanes.{PassValue}
use Rattle.lane_queue.specs.Orders.{attempt_of}
use Rattle.master_state.specs.declared.answers.Answer.{Answer}
use Rattle.master_state.specs.declared.states.Start.{Start}
use Rattle.master_state.specs.declared.states.Work.TheVariants as works
use Rattle.master_state.specs.declared.answers.Answer.TheVariants.{Accepted, Ignored}
use Rattle.master_state.specs.declared.answers.Why.{Why}
use Rattle.master_state.specs.declared.answers.Why.TheVariants.{HistoryFull, StrangeHand}
use Rattle.master_state.specs.declared.events.Event.{Event}
use Rattle.master_state.specs.declared.events.Event.TheVariants as events
use Rattle.master_state.specs.Jobs.{Plain}
use Rattle.hand_ledger.specs.Hands.{HandValue, last_place}
use Rattle.master_state.specs.declared.answers.Glance.{Glance}
use Rattle.master_state.specs.declared.answers.Reply.{Reply}
use Rattle.master_state.specs.States.{Setup}
use Rattle.block_map.specs.declared.CopyOrder.{CopyOrder}
use Rattle.shared_master.specs.Held.{AreCopiesOf, IsBackupWorkerOf, IsShownOf}
use Rattle.shared_master.specs.Steps.{AreDeadOf, IsKeptAs, IsKeptBackup, IsKeptReduce, IsKeptSweep, Replies}
use Rattle.shared_master.specs.Aheads.{IsAheadStepOf}
use Rattle.shared_master.specs.Waves.{AreKeptAs, IsKeptWave, ahead_event, noted_wave}
use Rattle.shared_master.specs.declared.waves.SharedWave.{SharedWave}
use Rattle.shared_master.specs.declared.waves.WaveError.{WaveError}
use Rattle.job_threads.specs.Chains.{EachBelow, OnlyIf}
use Rattle.job_threads.specs.Holdings.{AreReturning, all_buried, back_with, changed_at, has_risen}
use Rattle.job_threads.specs.Holdings.{holding_too}
use Rattle.job_threads.specs.declared.holdings.Holding.{Holding}
use Rattle.job_threads.specs.Turns.{has_ended, idle_after}
use Rattle.job_threads.specs.declared.caller.CallEnd.{CallEnd}
use Rattle.job_threads.specs.declared.caller.CallEnd.TheVariants as callends
use Rattle.job_threads.specs.declared.observer.Progress.{Progress}
use Rattle.job_threads.specs.declared.gate.Go.{Go}
use Rattle.job_threads.specs.declared.gate.Go.TheVariants as gate
use Rattle.job_threads.specs.declared.outcome.RunError.{RunError}
use Rattle.job_threads.specs.declared.outcome.RunError.TheVariants as ends

-- An answer that no place is left, or that the hand is strange, ends the run. The place is that of the hand's
-- last call.
abbrev pub judged_why : Why → ℕ → Result (Unit {0}) RunError
judged_why HistoryFull place = Err ends.HistoryFull
judged_why StrangeHand place = Err (ends.Torn place)
judged_why why place = Ok tt

abbrev pub judged : Plain → ℕ → Result (Unit {0}) RunError
judged (Accepted n rest) place = Ok tt
judged (Ignored why rest) place = judged_why why place

-- a gate's answer that the run is over ends it, and no other does
abbrev pub judged_go : Go → Result (Unit {0}) RunError
judged_go gate.On = Ok tt
judged_go gate.Over = Err ends.GateLimit

-- a pass that put an order more
abbrev pub with_put : Order → PassValue → PassValue
with_put given pass = record pass { puts = pass.puts ++ given ∷ [] }

-- An order was sent: it is in the lane of its worker, or its attempt was withdrawn.
abbrev pub IsSent : ℕ → Order → Bool → List PassValue → HandValue → List PassValue → HandValue → Type 0
IsSent w given true lanes hand new_lanes after =
    (new_lanes ≡ changed_at (with_put given) lanes w) × (after ≡ hand)
IsSent w given false lanes hand new_lanes after =
    (new_lanes ≡ lanes)
    × ((answer : Plain) × IsKeptAs hand (events.Withdraw (attempt_of given)) [] answer after)

-- a map attempt of a split was sent so, with the split's text
pub record IsMapSent
    (texts : List SplitDocuments) (a split w : ℕ) (sent : Bool) (lanes : List PassValue) (hand : HandValue)
    (new_lanes : List PassValue) (after : HandValue) : Type 0 where
  pub text : Arc SplitDocuments Global
  pub text_is : slice_get texts split ≡ Some (arc_value text)
  pub order : IsSent w (order.Map a text) sent lanes hand new_lanes after

-- a second attempt was asked for: which attempt it is, where it started
abbrev pub attempt_in : Answer ℕ (Unit {0}) → Option ℕ
attempt_in (Accepted place a) = Some a
attempt_in (Ignored why rest) = None

pub record IsAnswered (split w : ℕ) (attempt : Option ℕ) (before after : HandValue) : Type 0 where
  pub answer : Answer ℕ (Unit {0})
  pub kept : IsKeptBackup before split w answer after
  pub told : attempt ≡ attempt_in answer

-- A call that changes what a worker holds: where it was accepted, its holding is changed too.
abbrev pub changed_if : Plain → (Holding → Holding) → List Holding → ℕ → List Holding
changed_if (Accepted place rest) change workers w = changed_at change workers w
changed_if (Ignored why rest) change workers w = workers

-- what the calling thread knows of the workers, and its hand
pub record Known : Type 0 where
  pub workers : List Holding
  pub hand : HandValue

abbrev pub known : List Holding → HandValue → Known
known workers hand = record { workers = workers; hand = hand }

pub record IsToldOf (event : Event) (change : Holding → Holding) (w : ℕ) (before after : Known) : Type 0 where
  pub answer : Plain
  pub told : IsKeptAs before.hand event [] answer after.hand
  pub changed : after.workers ≡ changed_if answer change before.workers w

-- the worker holds the split too, where the master takes it
abbrev pub IsAdded : ℕ → ℕ → Known → Known → Type 0
IsAdded split w before after = IsToldOf (events.Add split w) (holding_too split) w before after

-- a copy of the list was asked for: its worker holds its split too
pub record IsCopied (orders : List CopyOrder) (k : ℕ) (before after : Known) : Type 0 where
  pub order : CopyOrder
  pub within : k < length orders
  pub is : order ≡ slice_index_or orders k order
  pub added : IsAdded order.split order.to before after

-- the copies of the job for its target, one after the other, are made
pub record AreCopied (setup : Setup) (target : ℕ) (before after : Known) : Type 0 where
  pub orders : List CopyOrder
  pub of_job : AreCopiesOf setup target orders
  pub each : EachBelow (IsCopied orders) (length orders) before after

-- the worker is back with all that it may return with, where the master takes it
pub record IsBack (splits w : ℕ) (before after : Known) : Type 0 where
  pub set : List ℕ
  pub returning : AreReturning before.workers splits (slice_get before.workers w) set
  pub joined : IsToldOf (events.Join w set) (back_with set) w before after

-- it is back if it has risen, by these counts; whether a worker was so far
abbrev pub IsBackIf : List ℕ → ℕ → ℕ → Known × Bool → Known × Bool → Type 0
IsBackIf told splits w before after =
    (rose : Bool) × (rose ≡ has_risen (slice_index told w) (slice_get before.0.workers w))
    × OnlyIf rose (IsBack splits w) before.0 after.0 × (after.1 ≡ (before.1 || rose))

-- What follows a death, and a sweep without one: the dead are buried, and where there is one, the copies of
-- the job are made; then each worker that rose is back.
pub record Follows
    (setup : Setup) (target splits : ℕ) (told dead : List ℕ) (before : Known) (rose : Bool) (after : Known)
    : Type 0 where
  pub copied : Known
  pub copies : OnlyIf (not (length dead == 0)) (AreCopied setup target)
      (known (all_buried dead told (length dead) before.workers) before.hand) copied
  pub joined : EachBelow (IsBackIf told splits) (length told) (copied, false) (after, rose)

-- a sweep with these counts: the master answers who died, and its answer ends no run
pub record IsSwept
    (setup : Setup) (target splits : ℕ) (told : List ℕ) (before : Known) (rose : Bool) (after : Known)
    : Type 0 where
  pub answer : Plain
  pub answered : HandValue
  pub kept : IsKeptSweep before.hand told answer answered
  pub passes : judged answer (last_place answered.calls) ≡ Ok tt
  pub dead : List ℕ
  pub dead_are : AreDeadOf setup told answer dead
  pub follows : Follows setup target splits told dead (known before.workers answered) rose after

-- what the calling thread put into the lanes, and its hand
pub record Sent : Type 0 where
  pub lanes : List PassValue
  pub hand : HandValue

abbrev pub sent : List PassValue → HandValue → Sent
sent lanes hand = record { lanes = lanes; hand = hand }

-- the order of a map start was sent: its split's text, to its worker
abbrev pub IsMapStartSent : List SplitDocuments → ℕ → Start → Bool →
    List PassValue → HandValue → List PassValue → HandValue → Type 0
IsMapStartSent texts a start put lanes hand new_lanes after =
    (split : ℕ) × (start.work ≡ works.Split split)
    × IsMapSent texts a split start.worker put lanes hand new_lanes after

-- The k-th start of a wave was sent, as the k-th attempt after the wave's first. Beside the lanes stands
-- whether an order of this wave is in a lane so far.
pub record IsStartSent
    (shared : SharedWave) (texts : List SplitDocuments) (k : ℕ) (before after : Sent × Bool) : Type 0 where
  pub start : Start
  pub put : Bool
  pub within : k < length shared.starts.items
  pub is : start ≡ slice_index_or shared.starts.items k start
  pub sends : IsMapStartSent texts (shared.wave.first + k) start put
      before.0.lanes before.0.hand after.0.lanes after.0.hand
  pub started : after.1 ≡ (before.1 || put)

abbrev pub AreStartsSent : SharedWave → List SplitDocuments → Sent → Bool → Sent → Type 0
AreStartsSent shared texts before started after =
    EachBelow (IsStartSent shared texts) (length shared.starts.items) (before, false) (after, started)

-- the order of a second attempt was sent, if one started
abbrev pub IsBackupSent : List SplitDocuments → ℕ → ℕ → Option ℕ → Sent → Bool → Sent → Type 0
IsBackupSent texts split w None before started after = (started ≡ false) × (after ≡ before)
IsBackupSent texts split w (Some a) before started after =
    IsMapSent texts a split w started before.lanes before.hand after.lanes after.hand

-- The worker was asked for, if there is one. The master may refuse it by then.
abbrev pub IsBackedUpOn : List SplitDocuments → ℕ → Option ℕ → Sent → Bool → Sent → Type 0
IsBackedUpOn texts split None before started after = (started ≡ false) × (after ≡ before)
IsBackedUpOn texts split (Some w) before started after =
    (attempt : Option ℕ) × (asked : HandValue) × IsAnswered split w attempt before.hand asked
    × IsBackupSent texts split w attempt (sent before.lanes asked) started after

-- a second attempt of the split was asked for on the lowest worker on which one might start, if there was one
abbrev pub IsBackedUp : Setup → ℕ → Sent → Bool → Sent → Type 0
IsBackedUp setup split before started after =
    (worker : Option ℕ) × IsBackupWorkerOf setup split worker
    × IsBackedUpOn setup.cluster.texts split worker before started after

-- the split was backed up, if it could be; whether an order is in a lane so far
abbrev pub IsBackedUpToo : Setup → ℕ → Sent × Bool → Sent × Bool → Type 0
IsBackedUpToo setup split before after =
    (put : Bool) × IsBackedUp setup split before.0 put after.0 × (after.1 ≡ (before.1 || put))

-- how many places a worker's queue has, by how many waves are planned ahead and its slots
abbrev pub places : ℕ → ℕ → ℕ
places waves slots = min (waves * slots) 255

-- the places of all queues, where waves are planned ahead
abbrev pub queues_of : Setup → Option ℕ → Option (List ℕ)
queues_of setup ahead = option_map (λ waves. map (places waves) setup.cluster.slots) ahead

-- a wave was planned; or ahead onto these queues, and its heads are the starts
abbrev pub IsPlanned : Setup → Option (List ℕ) → HandValue → SharedWave → HandValue → Type 0
IsPlanned setup None hand shared after = IsKeptWave setup hand shared after
IsPlanned setup (Some asked) hand shared after =
    AreKeptAs setup hand (ahead_event shared.wave) shared after
    × IsAheadStepOf setup hand asked (Ok (Some shared)) after

-- nothing is planned ahead, since the last event was a plan ahead
abbrev pub IsWaiting : Setup → Option (List ℕ) → HandValue → HandValue → Type 0
IsWaiting setup None hand after = ⊥
IsWaiting setup (Some asked) hand after = (after ≡ hand) × IsAheadStepOf setup hand asked (Ok None) after

-- what the caller of a plan sees
abbrev pub PlansAs :
    Setup → Option (List ℕ) → HandValue → Result (Option SharedWave) WaveError → HandValue → Type 0
PlansAs setup queues hand (Ok (Some shared)) after = IsPlanned setup queues hand shared after
PlansAs setup queues hand (Ok None) after = IsWaiting setup queues hand after
PlansAs setup queues hand (Err e) after = after ≡ noted_wave (length setup.cluster.splits) hand e

-- a wave was planned, by itself or ahead, and its starts were sent
pub record IsWaveStarted
    (setup : Setup) (queues : Option (List ℕ)) (before : Sent) (started : Bool) (after : Sent) : Type 0 where
  pub shared : SharedWave
  pub answered : HandValue
  pub kept : IsPlanned setup queues before.hand shared answered
  pub starts : AreStartsSent shared setup.cluster.texts (sent before.lanes answered) started after

-- the order of a reply went to its worker, if there is one
abbrev pub IsReplySent : Answer Reply (Unit {0}) → Sent → Bool → Sent → Type 0
IsReplySent (Accepted place reply) before started after =
    IsSent reply.worker (order.Reduce reply.attempt reply.part reply.runs) started
    before.lanes before.hand after.lanes after.hand
IsReplySent (Ignored why rest) before started after = (started ≡ false) × (after ≡ before)

-- a reduce attempt was asked for, and its order was sent
pub record IsReduceStarted (setup : Setup) (before : Sent) (started : Bool) (after : Sent) : Type 0 where
  pub answer : Answer Reply (Unit {0})
  pub answered : HandValue
  pub kept : IsKeptReduce before.hand answer answered
  pub replies : Replies setup answer
  pub sends : IsReplySent answer (sent before.lanes answered) started after

-- nothing starts
abbrev pub IsNothing : Sent → Bool → Sent → Type 0
IsNothing before started after = (started ≡ false) × (after ≡ before)

-- a wave is started; or nothing is, where a plan ahead waits
abbrev pub StartsWave : Setup → Option (List ℕ) → Sent → Bool → Sent → Type 0
StartsWave setup queues before started after =
    IsWaveStarted setup queues before started after
    ⊎ (IsWaiting setup queues before.hand after.hand × IsNothing before started after)

-- what starts where a wave may, and where a reduce attempt may
abbrev pub StartsAs : Setup → Option (List ℕ) → Bool → Bool → Sent → Bool → Sent → Type 0
StartsAs setup queues true reducible before started after = StartsWave setup queues before started after
StartsAs setup queues false true before started after = IsReduceStarted setup before started after
StartsAs setup queues false false before started after = IsNothing before started after

-- what starts in a turn by what was seen; nothing while waves pause
abbrev pub Starts : Setup → Option (List ℕ) → Bool → Glance → Sent → Bool → Sent → Type 0
Starts setup queues true seen before started after = IsNothing before started after
Starts setup queues false seen before started after =
    StartsAs setup queues seen.ready seen.reducible before started after

-- The errors of a step of the calling thread. The gate alone ends a run with GateLimit, and the start of the
-- threads with NoThread.
abbrev pub IsStepError : RunError → Type 0
IsStepError ends.GateLimit = ⊥
IsStepError ends.NoThread = ⊥
IsStepError e = Unit {0}

-- The errors of a thread that asks its gate: the errors of a step, and GateLimit where such a gate may end a
-- run.
abbrev pub MayEndWith : Type 0 → RunError → Type 0
MayEndWith may_end ends.GateLimit = may_end
MayEndWith may_end e = IsStepError e

-- second attempts for all splits, where they may start; where one started, the turn was not idle
abbrev pub AreBackedUp : Setup → Sent → Sent → ℕ → ℕ → Type 0
AreBackedUp setup before after idle new_idle =
    (started : Bool)
    × EachBelow (IsBackedUpToo setup) (length setup.cluster.splits) (before, false) (after, started)
    × (new_idle ≡ (if started then 0 else idle))

-- What may start by what was seen is started. Where nothing was, the turn is counted as idle; a second
-- attempt may yet start, and then it was not.
abbrev pub HasStarted : Setup → Option (List ℕ) → Bool → Glance → Sent → ℕ → ℕ → Type 0
HasStarted setup queues pauses seen before idle new_idle =
    (started : Bool) × (after : Sent) × Starts setup queues pauses seen before started after
    × ((new_idle ≡ idle_after idle started) ⊎ (new_idle ≡ 0))

-- why the turns ended: the run was seen to be over; or at a glance all parts were done, or nothing ran and
-- nothing could start for so many sweeps
abbrev pub EndsCalls : Setup → ℕ → CallEnd → Type 0
EndsCalls setup quiet (callends.Over over) = Unit {0}
EndsCalls setup quiet (callends.Seen seen) =
    IsShownOf setup seen × (has_ended seen quiet setup.cluster.silence ≡ true)

-- how far the job is
abbrev pub progress_of : Setup → Glance → ℕ → ℕ → Progress
progress_of setup seen waves deaths = record {
  splits = length setup.cluster.texts;
  parts = setup.cluster.parts;
  open_splits = seen.open_splits;
  open_parts = seen.open_parts;
  waves = waves;
  deaths = deaths;
}
