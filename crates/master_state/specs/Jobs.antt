-- What a caller sees of a master, and what an answer of it promises.
use Rattle.std.specs.Prelude.{ℕ, ◌≡◌, ◌+◌, ◌≤◌, ◌⊎◌, ◌↔◌, Bool, true, false, not, if◌then◌else◌, IsTrue, List, []}
use Rattle.std.specs.Prelude.{◌∷◌, ◌++◌, length, All, count_by, Option, Some, None, Ok, Err}
use Rattle.std.specs.declared.result.Result.{Result}
use Rattle.wave_problem.specs.Wave.{IsAdmissible}
use Rattle.wave_problem.specs.Assignment.{IsBest, pairs_of}
use Rattle.price_certificate.specs.Certificate.{Claim, Certifies, IsFirstFailure, claim}
use Rattle.price_certificate.specs.PriceList.{PriceList}
use Rattle.shuffle_reduce.specs.Merged.{PartView, AreSameTexts, IsPartOf}
use Rattle.shuffle_reduce.specs.Gather.{AreOfPart, texts_of_runs}
use Rattle.shuffle_reduce.specs.Indexed.{count_of}
use Rattle.worker_table.specs.Workers.{swept, silent_in}
use Rattle.master_state.specs.declared.answers.Answer.{Answer}
use Rattle.master_state.specs.declared.answers.Answer.TheVariants.{Accepted, Ignored}
use Rattle.master_state.specs.declared.answers.Reply.{Reply}
use Rattle.master_state.specs.declared.answers.Glance.{Glance}
use Rattle.master_state.specs.declared.answers.Why.{Why}
use Rattle.master_state.specs.declared.answers.Why.TheVariants.{Memory}
use Rattle.master_state.specs.declared.answers.CommitError.{CommitError}
use Rattle.master_state.specs.declared.answers.CommitError.TheVariants as commit
use Rattle.master_state.specs.declared.answers.Wave.{Wave}
use Rattle.master_state.specs.declared.events.Event.{Event}
use Rattle.master_state.specs.declared.events.Event.TheVariants as events
use Rattle.master_state.specs.States.{Setup, State, IsWhole, AreAllowed, next_attempt}
use Rattle.master_state.specs.Tests.{all_running, is_done, part_is_done, part_at, next_part, next_worker}
use Rattle.master_state.specs.Refusals.{Call, MapDone, MapFailed, Withdraw, Die, Join, Add, Lose, Sweep}
use Rattle.master_state.specs.Refusals.{ReduceStart, PartDone, PartFailed, Backup, refusal, has_no_room}
use Rattle.master_state.specs.Refusals.{is_not_reducible}
use Rattle.master_state.specs.Steps.{AreHeads, IsAhead, IsWave, IsChange, IsLegal, problem_of}
use Rattle.master_state.specs.Steps.{with_places}
use Rattle.master_state.specs.Tidy.{IsTidy}

-- a master as its callers see it
pub record Job : Type 0 where
  pub setup : Setup
  pub history : List Event
  pub state : State
  pub results : List PartView  -- of the parts that are done, in the order in which they were accepted

-- the event by which an accepted call stands in the history
abbrev pub event_of : State → Call → Event
event_of s (MapDone a result) = events.MapDone a
event_of s (MapFailed a) = events.MapFailed a
event_of s (Withdraw a) = events.Withdraw a
event_of s (Die w) = events.Die w
event_of s (Join w set) = events.Join w set
event_of s (Add split w) = events.Add split w
event_of s (Lose split w) = events.Lose split w
event_of s (Sweep counts) = events.Sweep (length s.sweeps + 1)
event_of s ReduceStart = events.ReduceStart (next_attempt s) (next_part s) (next_worker s)
event_of s (PartDone a result) = events.PartDone a
event_of s (PartFailed a) = events.PartFailed a
event_of s (Backup split w) = events.Backup (next_attempt s) split w

-- the result that it adds
abbrev pub added_by : Call → List PartView
added_by (PartDone a result) = result ∷ []
added_by call = []

-- the event is the next of the history, at this place, and these results were added
pub record IsNext (old : Job) (event : Event) (added : List PartView) (place : ℕ) (new : Job) : Type 0 where
  pub place_is : place ≡ length old.history + 1
  pub setup : new.setup ≡ old.setup
  pub history : new.history ≡ old.history ++ event ∷ []
  pub results : new.results ≡ old.results ++ added

-- the call was accepted at this place
pub record IsAccepted (old : Job) (call : Call) (place : ℕ) (new : Job) : Type 0 where
  pub change : IsChange old.setup old.state call new.state
  pub next : IsNext old (event_of old.state call) (added_by call) place new

-- the call was ignored for the first reason that applies, and nothing has changed
pub record IsIgnored (old : Job) (call : Call) (why : Why) (new : Job) : Type 0 where
  pub refused : refusal old.setup old.state call ≡ Some why
  pub same : new ≡ old

-- an answer with nothing beside its place or its reason, and what any other is without that
abbrev pub Plain : Type 0
Plain = Answer (Unit {0}) (Unit {0})

abbrev pub plain : {T B : Type 0} → Answer T B → Plain
plain (Accepted place told) = Accepted place tt
plain (Ignored why back) = Ignored why tt

-- what an answer says of a call
abbrev pub Answers : {T B : Type 0} → Job → Call → Answer T B → Job → Type 0
Answers old call (Accepted place told) new = IsAccepted old call place new
Answers old call (Ignored why back) new = IsIgnored old call why new

-- what was handed in comes back where the call was ignored
abbrev pub GivesBack : {T B : Type 0} → B → Answer T B → Type 0
GivesBack given (Accepted place told) = Unit {0}
GivesBack given (Ignored why back) = back ≡ given

-- what is told of an accepted call is so
abbrev pub Tells : {T B : Type 0} → (T → Type 0) → Answer T B → Type 0
Tells IsSo (Accepted place told) = IsSo told
Tells IsSo (Ignored why back) = Unit {0}

-- the attempt that was started is the next one
abbrev pub TellsNext : Job → Answer ℕ (Unit {0}) → Type 0
TellsNext old given = Tells (λ a. a ≡ next_attempt old.state) given

-- the reply has the attempt, the part and the worker, and the run of each text for the part
pub record IsReply (old : Job) (reply : Reply) : Type 0 where
  pub attempt : reply.attempt ≡ next_attempt old.state
  pub part : reply.part ≡ next_part old.state
  pub worker : reply.worker ≡ next_worker old.state
  pub of_part : AreOfPart reply.runs.items reply.part old.setup.cluster.parts
  pub texts : texts_of_runs reply.runs.items ≡ old.setup.cluster.texts

-- want of memory is answered only where there is no other reason
abbrev pub AnswersReduce : Job → Answer Reply (Unit {0}) → Job → Type 0
AnswersReduce old (Accepted place reply) new = IsReply old reply × IsAccepted old ReduceStart place new
AnswersReduce old (Ignored why back) new =
    IsIgnored old ReduceStart why new
    ⊎ ((why ≡ Memory) × (refusal old.setup old.state ReduceStart ≡ None) × (new ≡ old))

-- who died in a sweep that was answered so, by number
abbrev pub died_in : Job → List ℕ → Plain → List ℕ
died_in old counts (Accepted place told) = silent_in (swept old.state.workers counts)
died_in old counts (Ignored why back) = []

-- the answer to a sweep, and the list of the workers that died in it
pub record AnswersSweep (old : Job) (counts : List ℕ) (given : Plain) (dead : List ℕ) (new : Job)
    : Type 0 where
  pub answer : Answers old (Sweep counts) given new
  pub dead_are : dead ≡ died_in old counts given

-- the plan was committed as a wave, best in the state that it changed
pub record IsCommitted (old : Job) (plan : List (Option ℕ)) (wave : Wave) (new : Job) : Type 0 where
  pub change : IsWave old.setup old.state wave.first wave.count wave.cost plan new.state
  pub next : IsNext old (events.Wave wave.first wave.count wave.cost) [] wave.place new

-- the starts were made as the heads of the plan onto the places that were asked for
pub record IsCommittedAhead (old : Job) (asked : List ℕ) (plan starts : List (Option ℕ)) (wave : Wave)
    (new : Job) : Type 0 where
  pub change : IsAhead old.setup old.state wave.first wave.count wave.cost asked plan starts new.state
  pub next : IsNext old (events.Ahead wave.first wave.count wave.cost) [] wave.place new

-- no place for the event is left, or fewer attempts than the plan starts
abbrev pub lacks_room : Job → List (Option ℕ) → Bool
lacks_room job plan = has_no_room job.setup job.state (length (pairs_of plan))

-- a best plan of the present state starts more than there is room for
pub record LacksRoomForBest (job : Job) : Type 0 where
  pub plan : List (Option ℕ)
  pub best : IsBest (problem_of job.setup job.state) (pairs_of plan)
  pub full : lacks_room job plan ≡ true

-- the heads of a best plan onto these queues are more than there is room for
pub record LacksRoomForHeads (job : Job) (asked : List ℕ) : Type 0 where
  pub plan : List (Option ℕ)
  pub starts : List (Option ℕ)
  pub best : IsBest (with_places asked (problem_of job.setup job.state)) (pairs_of plan)
  pub heads : AreHeads (problem_of job.setup job.state).workers plan starts
  pub full : lacks_room job starts ≡ true

-- a plan and prices as a claim on the present state
abbrev pub present : Job → List (Option ℕ) → PriceList → Claim
present job plan prices = claim (problem_of job.setup job.state) plan prices

-- What the answer to a commit says. Whether there is room, and whether the prices certify the plan, is
-- asked of the present state; want of memory comes between the two.
abbrev pub AnswersCommit : Job → List (Option ℕ) → PriceList → Result Wave CommitError → Job → Type 0
AnswersCommit old plan prices (Ok wave) new =
    Certifies (present old plan prices) × IsCommitted old plan wave new
AnswersCommit old plan prices (Err commit.HistoryFull) new = (lacks_room old plan ≡ true) × (new ≡ old)
AnswersCommit old plan prices (Err commit.Memory) new = (lacks_room old plan ≡ false) × (new ≡ old)
AnswersCommit old plan prices (Err (commit.Stale c)) new =
    (lacks_room old plan ≡ false) × IsFirstFailure (present old plan prices) c × (new ≡ old)

-- a pair is admissible
abbrev pub IsReady : Job → Type 0
IsReady job = (split : ℕ) × (w : ℕ) × IsAdmissible (problem_of job.setup job.state) split w

-- what a glance shows
pub record IsGlance (job : Job) (glance : Glance) : Type 0 where
  pub ready : IsTrue glance.ready ↔ IsReady job
  pub reducible : glance.reducible ≡ not (is_not_reducible job.state)
  pub running : glance.running ≡ length (all_running job.state)
  pub open_splits : glance.open_splits ≡ count_by (λ split. not (is_done split)) job.state.splits
  pub open_parts : glance.open_parts ≡ count_by (λ part. not (part_is_done part)) job.state.parts

-- the result covers the cluster's texts, is of its number of parts, and has the pairs of its texts for its part
pub record IsResult (setup : Setup) (result : PartView) : Type 0 where
  pub texts : AreSameTexts result.texts setup.cluster.texts
  pub parts : result.parts ≡ setup.cluster.parts
  pub merged : IsPartOf result.texts result.part result.parts result.pairs

-- one result of each done part, and no other
pub record AreResults (setup : Setup) (s : State) (results : List PartView) : Type 0 where
  pub each : All (IsResult setup) results
  pub one_each : (r : ℕ) → count_of results r ≡ (if part_is_done (part_at s r) then 1 else 0)

-- for each event that may still come there is room for one bar
abbrev pub HasBarRoom : Setup → State → Type 0
HasBarRoom setup s = setup.limits.events ≤ s.workers.barred.room + s.events

-- what every master keeps
pub record IsKept (job : Job) : Type 0 where
  pub whole : IsWhole job.setup.cluster
  pub small : AreAllowed job.setup.limits
  pub legal : IsLegal job.setup job.history job.state
  pub tidy : IsTidy job.setup job.state
  pub bars : HasBarRoom job.setup job.state
  pub results : AreResults job.setup job.state job.results
