-- What a call of a hand does under the lock, and what its caller sees of it.
use Rattle.std.specs.Prelude.{ℕ, ◌≡◌, ◌+◌, ◌<◌, ◌≤◌, ◌⊎◌, true, false, All, List, [], ◌∷◌, Option, Some, None}
use Rattle.std.specs.Prelude.{length}
use Rattle.master_state.specs.declared.answers.Answer.{Answer}
use Rattle.master_state.specs.declared.answers.Answer.TheVariants.{Accepted, Ignored}
use Rattle.master_state.specs.declared.answers.Reply.{Reply}
use Rattle.master_state.specs.declared.answers.Why.{Why}
use Rattle.master_state.specs.declared.answers.Why.TheVariants.{HistoryFull, StrangeHand}
use Rattle.master_state.specs.declared.events.Event.{Event}
use Rattle.master_state.specs.declared.events.Event.TheVariants as events
use Rattle.master_state.specs.States.{Setup}
use Rattle.master_state.specs.Jobs.{Job, Answers, AnswersReduce, IsReply, Plain, Tells, died_in}
use Rattle.master_state.specs.Jobs.{event_of}
use Rattle.master_state.specs.Refusals.{Call, MapFailed, Withdraw, Die, Join, Add, Lose, Sweep}
use Rattle.master_state.specs.Refusals.{ReduceStart, PartFailed, Backup}
use Rattle.compact_lists.specs.Lists.{is_join}
use Rattle.hand_ledger.specs.Hands.{HandValue, counts_in, has_room, kept, last_place, noted, starts_in}
use Rattle.hand_ledger.specs.Hands.{with_call}
use Rattle.hand_ledger.specs.Settling.{LastStands, event_at}
use Rattle.shared_master.specs.declared.calls.PlainCall.{PlainCall}
use Rattle.shared_master.specs.declared.calls.PlainCall.TheVariants as plain
use Rattle.shared_master.specs.Held.{IsMasterOf}
use Rattle.shared_master.specs.declared.sizes.Sizes.{Sizes}

-- what a call asks for: its splits and workers are within the sizes that stand beside the lock, and a sweep
-- has a count for each worker
abbrev pub IsKnownTo : Sizes → Call → Type 0
IsKnownTo sizes (Die w) = w < sizes.workers
IsKnownTo sizes (Join w set) =
    (w < sizes.workers) × All (λ split. split < sizes.splits) set
IsKnownTo sizes (Add split w) = (split < sizes.splits) × (w < sizes.workers)
IsKnownTo sizes (Lose split w) = (split < sizes.splits) × (w < sizes.workers)
IsKnownTo sizes (Backup split w) = (split < sizes.splits) × (w < sizes.workers)
IsKnownTo sizes (Sweep counts) = length counts ≡ sizes.workers
IsKnownTo sizes call = Unit {0}

-- the master's call of a plain one
abbrev pub call_of : PlainCall → Call
call_of (plain.Add split w) = Add split w
call_of (plain.Lose split w) = Lose split w
call_of (plain.Die w) = Die w
call_of (plain.MapFailed a) = MapFailed a
call_of (plain.Withdraw a) = Withdraw a
call_of (plain.PartFailed a) = PartFailed a

-- and the event by which it stands in a history
abbrev pub plain_event : PlainCall → Event
plain_event (plain.Add split w) = events.Add split w
plain_event (plain.Lose split w) = events.Lose split w
plain_event (plain.Die w) = events.Die w
plain_event (plain.MapFailed a) = events.MapFailed a
plain_event (plain.Withdraw a) = events.Withdraw a
plain_event (plain.PartFailed a) = events.PartFailed a

-- as many splits and workers as a job has
pub record AreSizesOf (setup : Setup) (sizes : Sizes) : Type 0 where
  pub splits : sizes.splits ≡ length setup.cluster.splits
  pub few_splits : sizes.splits ≤ 131072
  pub workers : sizes.workers ≡ length setup.cluster.slots

-- The hand is this master's: it keeps a count for each worker of the job, and its last call stands in the
-- history at its place.
pub record IsOwn (job : Job) (hand : HandValue) : Type 0 where
  pub workers : hand.workers ≡ length job.setup.cluster.slots
  pub stands : LastStands job.history hand.calls

-- why a call that needs room for so many counts and starts does not reach the master, if it does not
abbrev pub IsBarrier : Job → HandValue → ℕ → ℕ → Option Why → Type 0
IsBarrier job hand counts starts None =
    IsOwn job hand × (has_room hand counts starts ≡ true)
IsBarrier job hand counts starts (Some why) =
    ((IsOwn job hand → ⊥) × (why ≡ StrangeHand))
    ⊎ (IsOwn job hand × (has_room hand counts starts ≡ false) × (why ≡ HistoryFull))

-- A call with so many counts does not reach the master, which is unchanged then, or it does.
abbrev pub IsBehind : {T B : Type 0} → Job → HandValue → ℕ → Answer T B → Job → Type 0 → Type 0
IsBehind {B = B} old hand counts given new Reached =
    ((why : Why) × (back : B) × IsBarrier old hand counts 0 (Some why) × (given ≡ Ignored why back)
    × (new ≡ old))
    ⊎ (IsBarrier old hand counts 0 None × Reached)

-- the hand after the answer to a call with this event and these counts
abbrev pub answered : {T B : Type 0} → HandValue → Event → List (List ℕ) → Answer T B → HandValue
answered hand event counts (Accepted place told) = with_call hand (kept place event counts [])
answered hand event counts (Ignored why back) = noted hand (has_room hand (length counts) 0) why

-- what a call with these counts does under the lock to the master and to the hand
pub record IsStep {T B : Type 0}
    (old : Job) (hand : HandValue) (call : Call) (counts : List (List ℕ))
    (given : Answer T B) (new : Job) (after : HandValue) : Type 0 where
  pub answer : IsBehind old hand (length counts) given new (Answers old call given new)
  pub hand_is : after ≡ answered hand (event_of old.state call) counts given

-- a hand keeps a reduce start in the same way, whose answer may be want of memory
pub record IsReduceStep
    (old : Job) (hand : HandValue) (given : Answer Reply (Unit {0})) (new : Job) (after : HandValue)
    : Type 0 where
  pub answer : IsBehind old hand 0 given new (AnswersReduce old given new)
  pub hand_is : after ≡ answered hand (event_of old.state ReduceStart) [] given

-- an accepted call stands above the hand's last one, and the hand had room for it
abbrev pub IsNextOf : {T B : Type 0} → HandValue → List (List ℕ) → Answer T B → Type 0
IsNextOf hand counts (Accepted place told) =
    (last_place hand.calls < place) × (has_room hand (length counts) 0 ≡ true)
IsNextOf hand counts (Ignored why back) = Unit {0}

-- what the caller sees: the event is kept at the place that was answered, or only the notes may change
pub record IsKeptAs {T B : Type 0}
    (hand : HandValue) (event : Event) (counts : List (List ℕ)) (given : Answer T B) (after : HandValue)
    : Type 0 where
  pub hand_is : after ≡ answered hand event counts given
  pub next : IsNextOf hand counts given

-- a backup is kept with the attempt that was answered
abbrev pub IsKeptBackup : HandValue → ℕ → ℕ → Answer ℕ (Unit {0}) → HandValue → Type 0
IsKeptBackup hand split w (Accepted place a) after =
    IsKeptAs {B = Unit {0}} hand (events.Backup a split w) [] (Accepted place a) after
IsKeptBackup hand split w (Ignored why back) after = after ≡ noted hand (has_room hand 0 0) why

-- a reduce start with the attempt, the part and the worker of its reply
abbrev pub IsKeptReduce : HandValue → Answer Reply (Unit {0}) → HandValue → Type 0
IsKeptReduce hand (Accepted place reply) after =
    IsKeptAs {B = Unit {0}} hand (events.ReduceStart reply.attempt reply.part reply.worker) []
    (Accepted place reply) after
IsKeptReduce hand (Ignored why back) after = after ≡ noted hand (has_room hand 0 0) why

-- a reply of a master of this job: its part and its worker are the job's
pub record IsReplyOf (setup : Setup) (job : Job) (reply : Reply) : Type 0 where
  pub of_job : IsMasterOf setup job
  pub replied : IsReply job reply
  pub part : reply.part < setup.cluster.parts
  pub worker : reply.worker < length setup.cluster.slots

-- an accepted reduce start has such a reply
abbrev pub Replies : Setup → Answer Reply (Unit {0}) → Type 0
Replies setup given = Tells (λ reply. (job : Job) × IsReplyOf setup job reply) given

-- a sweep with its counts, by the place that these have among all sweeps
abbrev pub IsKeptSweep : HandValue → List ℕ → Plain → HandValue → Type 0
IsKeptSweep hand counts given after =
    (n : ℕ) × IsKeptAs hand (events.Sweep n) (counts ∷ []) given after

-- exactly these workers died in a sweep with this answer, in a master of this job
abbrev pub AreDeadOf : Setup → List ℕ → Plain → List ℕ → Type 0
AreDeadOf setup counts given dead = (job : Job) × IsMasterOf setup job × (dead ≡ died_in job counts given)

-- a master of this job took the call so, or it did not reach it
pub record IsStepOf {T B : Type 0}
    (setup : Setup) (hand : HandValue) (call : Call) (counts : List (List ℕ)) (given : Answer T B)
    (after : HandValue) : Type 0 where
  pub old : Job
  pub new : Job
  pub of_job : IsMasterOf setup old
  pub step : IsStep old hand call counts given new after

-- a reduce start of a master of this job
pub record IsReduceStepOf
    (setup : Setup) (hand : HandValue) (given : Answer Reply (Unit {0})) (after : HandValue) : Type 0 where
  pub old : Job
  pub new : Job
  pub of_job : IsMasterOf setup old
  pub step : IsReduceStep old hand given new after

-- an accepted call has the last place of the history
abbrev pub IsLast : {T B : Type 0} → List Event → Answer T B → Type 0
IsLast history (Accepted place told) = (0 < place) × (place ≡ length history)
IsLast history (Ignored why back) = Unit {0}

-- the event stands at the place that was answered, if one was
abbrev pub IsAt : {T B : Type 0} → List Event → Answer T B → Event → Type 0
IsAt history (Accepted place told) event = event_at history place ≡ Some event
IsAt history (Ignored why back) event = Unit {0}

-- the event that stands there has so many counts and no starts, and is no join
abbrev pub HasCounts : {T B : Type 0} → List Event → Answer T B → ℕ → Type 0
HasCounts history (Accepted place told) n =
    (event : Event) → event_at history place ≡ Some event →
    (counts_in event ≡ n) × (starts_in event ≡ 0) × (is_join event ≡ false)
HasCounts history (Ignored why back) n = Unit {0}

-- the total of the book after an answer
abbrev pub total_after : {T B : Type 0} → ℕ → Answer T B → ℕ
total_after total (Accepted place told) = total + 1
total_after total (Ignored why back) = total
