-- What a step under the lock says of the hand, of the book and to the caller.
use Rattle.std.proofs.Common.{◌≡◌, ◌⊎◌, ℕ, zero, suc, ◌+◌, ◌<◌, ◌≤◌, ◌++◌, false, None}
use Rattle.std.proofs.Common.{List, [], ◌∷◌, length, Some, All, refl, sym, ap, subst, ◌∙◌, arith, inl, inr}
use Rattle.std.proofs.lemmas.Option.{same_Some, slice_get_within}
use Rattle.master_state.specs.declared.answers.Answer.{Answer}
use Rattle.master_state.specs.declared.answers.Answer.TheVariants.{Accepted, Ignored}
use Rattle.master_state.specs.declared.answers.Reply.{Reply}
use Rattle.master_state.specs.declared.events.Event.{Event}
use Rattle.master_state.specs.declared.events.Event.TheVariants as events
use Rattle.master_state.specs.declared.states.Start.{Start}
use Rattle.master_state.specs.declared.states.Work.TheVariants as works
use Rattle.master_state.specs.States.{Setup, State}
use Rattle.master_state.specs.Tests.{next_part, next_worker}
use Rattle.master_state.specs.Tidy.{IsStartOf}
use Rattle.master_state.specs.Jobs.{Job, Answers, AnswersReduce, IsAccepted, IsKept, Plain, TellsNext}
use Rattle.master_state.specs.Jobs.{event_of}
use Rattle.master_state.specs.Refusals.{Call, Backup, IsKnown, ReduceStart}
use Rattle.master_state.proofs.Lists.{All-right, slice_get-push}
use Rattle.compact_lists.specs.Lists.{is_join}
use Rattle.hand_ledger.specs.Hands.{HandValue, Kept, counts_in, last_place, starts_in}
use Rattle.hand_ledger.specs.Settling.{LastStands, event_at}
use Rattle.shared_master.specs.declared.calls.PlainCall.{PlainCall}
use Rattle.shared_master.specs.declared.calls.PlainCall.TheVariants as plain
use Rattle.shared_master.specs.declared.sizes.Sizes.{Sizes}
use Rattle.shared_master.specs.Held.{IsMasterOf}
use Rattle.shared_master.specs.Steps.{answered, AreSizesOf, HasCounts, IsAt, IsBarrier, IsBehind, IsKeptAs}
use Rattle.shared_master.specs.Steps.{IsKeptBackup, IsKeptReduce, IsKnownTo, IsNextOf, IsReplyOf}
use Rattle.shared_master.specs.Steps.{IsOwn, IsReduceStep, IsStep, Replies, call_of, plain_event}

-- the call was accepted, or the master is unchanged
abbrev pub Takes : {T B : Type 0} → Job → Call → Answer T B → Job → Type 0
Takes old call (Accepted place told) new = IsAccepted old call place new
Takes old call (Ignored why back) new = new ≡ old

pub takes : {T B : Type 0} (old : Job) (call : Call) (given : Answer T B) (new : Job) →
    Answers old call given new → Takes old call given new
takes old call (Accepted place told) new accepted = accepted
takes old call (Ignored why back) new ignored = ignored.same

pub takes_reduce : (old : Job) (given : Answer Reply (Unit {0})) (new : Job) →
    AnswersReduce old given new → Takes old ReduceStart given new
takes_reduce old (Accepted place reply) new accepted = accepted.1
takes_reduce old (Ignored why back) new (inl ignored) = ignored.same
takes_reduce old (Ignored why back) new (inr memory) = memory.2

-- the last event of a history
at_end : (history : List Event) (event : Event) →
    event_at (history ++ event ∷ []) (length history + 1) ≡ Some event
at_end history event =
    let next : length history + 1 ≡ suc (length history) = omega arith in
    ap (event_at (history ++ event ∷ [])) next ∙ slice_get-push history event

pub is_at : {T B : Type 0} (old : Job) (call : Call) (given : Answer T B) (new : Job) →
    Takes old call given new → IsAt new.history given (event_of old.state call)
is_at old call (Accepted place told) new accepted = grind (arith, at_end)
is_at old call (Ignored why back) new same = tt

-- the event of an accepted call that is no join has as many counts as the call, and no starts
pub counted : {T B : Type 0} (old : Job) (call : Call) (given : Answer T B) (new : Job) (n : ℕ) →
    counts_in (event_of old.state call) ≡ n → starts_in (event_of old.state call) ≡ 0 →
    is_join (event_of old.state call) ≡ false → Takes old call given new → HasCounts new.history given n
counted {T = T} {B = B} old call (Accepted place told) new n counts starts other accepted =
    λ event at.
    (let given : Answer T B = Accepted place told in
    let same : event_of old.state call ≡ event = same_Some _ _ (sym (is_at old call given new accepted)
    ∙ at) in (
      subst (λ e. counts_in e ≡ n) same counts,
      subst (λ e. starts_in e ≡ 0) same starts,
      subst (λ e. is_join e ≡ false) same other,
    ))
counted old call (Ignored why back) new n counts starts other same = tt

-- the same of a call that hands in numbers alone: no counts
pub counted_none : (old : Job) (call : PlainCall) (given : Plain) (new : Job) →
    Takes old (call_of call) given new → HasCounts new.history given 0
counted_none old (plain.Add split w) given new took = counted old _ given new 0 refl refl refl took
counted_none old call given new took = counted old _ given new 0 refl refl refl took

-- a step that reached the master
pub stepped : {T B : Type 0} {inside old : Job} {hand : HandValue} {call : Call}
    {given : Answer T B} {new : Job} {after : HandValue} → inside ≡ old →
    IsBarrier old hand 0 0 None → Answers inside call given new →
    ((event : Event) → IsAt new.history given event → after ≡ answered hand event [] given) →
    IsStep old hand call [] given new after
stepped {old = old} {call = call} {given = given} {new = new} same barrier is entered =
    let reached : Answers old call given new = subst (λ j. Answers j call given new) same is in
    record {
      answer = inr (barrier, reached);
      hand_is = entered _ (is_at old call given new (takes old call given new reached));
    }

pub stepped_reduce : {inside old : Job} {hand : HandValue} {given : Answer Reply (Unit {0})}
    {new : Job} {after : HandValue} → inside ≡ old → IsBarrier old hand 0 0 None →
    AnswersReduce inside given new →
    ((event : Event) → IsAt new.history given event → after ≡ answered hand event [] given) →
    IsReduceStep old hand given new after
stepped_reduce {old = old} {given = given} {new = new} same barrier is entered =
    let reached : AnswersReduce old given new = subst (λ j. AnswersReduce j given new) same is in
    record {
      answer = inr (barrier, reached);
      hand_is = entered _ (is_at old ReduceStart given new (takes_reduce old given new reached));
    }

-- what the caller sees of it
event_within : (history : List Event) (place : ℕ) (event : Event) → event_at history place ≡ Some event →
    place ≤ length history
event_within history zero event at = omega arith
event_within history (suc k) event at = omega (arith, slice_get_within history k event at)

last_within : (history : List Event) (calls : List Kept) → LastStands history calls →
    last_place calls ≤ length history
last_within history [] stands = omega arith
last_within history (call ∷ []) stands = event_within history call.place call.event stands
last_within history (call ∷ next ∷ calls) stands = last_within history (next ∷ calls) stands

-- the last call of a hand that is the master's stands within the history
pub own_within : (job : Job) (hand : HandValue) → IsOwn job hand →
    last_place hand.calls ≤ length job.history
own_within job hand own = last_within job.history hand.calls own.stands

-- an accepted call reached the master
reached_of : {T B X : Type 0} (old : Job) (hand : HandValue) (n place : ℕ) (told : T)
    (new : Job) → IsBehind {B = B} old hand n (Accepted place told) new X →
    IsBarrier old hand n 0 None × X
reached_of old hand n place told new (inl ignored) = absurd (cc ignored.3)
reached_of old hand n place told new (inr reached) = reached

-- and is the next of its hand
next_of : {T B : Type 0} (old : Job) (hand : HandValue) (call : Call)
    (counts : List (List ℕ)) (given : Answer T B) (new : Job) →
    IsBehind old hand (length counts) given new (Takes old call given new) → IsNextOf hand counts given
next_of old hand call counts (Accepted place told) new is = grind (arith, reached_of, own_within)
next_of old hand call counts (Ignored why back) new is = tt

mapped : {A B X Y : Type 0} → (X → Y) → A ⊎ (B × X) → A ⊎ (B × Y)
mapped f (inl ignored) = inl ignored
mapped f (inr reached) = inr (reached.0, f reached.1)

pub kept_as : {T B : Type 0} {old : Job} {hand : HandValue} {call : Call}
    {counts : List (List ℕ)} {given : Answer T B} {new : Job} {after : HandValue} →
    IsStep old hand call counts given new after →
    IsKeptAs hand (event_of old.state call) counts given after
kept_as {old = old} {hand = hand} {call = call} {counts = counts} {given = given} {new = new}
    step = record {
      hand_is = step.hand_is;
      next = next_of old hand call counts given new (mapped (takes old call given new) step.answer);
    }

pub kept_plain : (call : PlainCall) {old : Job} {hand : HandValue} {given : Plain}
    {new : Job} {after : HandValue} → IsStep old hand (call_of call) [] given new after →
    IsKeptAs hand (plain_event call) [] given after
kept_plain (plain.Add split w) step = kept_as step
kept_plain call step = kept_as step

pub kept_backup : (given : Answer ℕ (Unit {0})) {old : Job} {hand : HandValue} {split w : ℕ}
    {new : Job} {after : HandValue} → IsStep old hand (Backup split w) [] given new after →
    TellsNext old given → IsKeptBackup hand split w given after
kept_backup (Accepted place a) {hand = hand} {split = split} {w = w} {after = after} step names =
    subst (λ n. IsKeptAs {B = Unit {0}} hand (events.Backup n split w) [] (Accepted place a) after)
    (sym names) (kept_as step)
kept_backup (Ignored why back) step names = step.hand_is

pub kept_reduce : (given : Answer Reply (Unit {0})) {old : Job} {hand : HandValue}
    {new : Job} {after : HandValue} → IsReduceStep old hand given new after →
    IsKeptReduce hand given after
kept_reduce (Accepted place reply) {old = old} {hand = hand} {new = new} {after = after}
    step =
    let told = (reached_of old hand 0 place reply new step.answer).1.0 in
    let event : event_of old.state ReduceStart ≡ events.ReduceStart reply.attempt reply.part reply.worker =
    (λ k. events.ReduceStart (sym told.attempt k) (sym told.part k) (sym told.worker k)) in
    subst (λ e. IsKeptAs {B = Unit {0}} hand e [] (Accepted place reply) after) event (record {
      hand_is = step.hand_is;
      next = next_of old hand ReduceStart [] (Accepted place reply) new
          (mapped (takes_reduce old (Accepted place reply) new) step.answer);
    })
kept_reduce (Ignored why back) step = step.hand_is

-- the reply of an accepted reduce start names a part and a worker of the job
reply_of : (setup : Setup) (old : Job) (hand : HandValue) (place : ℕ) (reply : Reply) (new : Job) →
    IsBehind {B = Unit {0}} old hand 0 (Accepted place reply) new
    (AnswersReduce old (Accepted place reply) new) → IsMasterOf setup old → IsKept new →
    IsReplyOf setup old reply
reply_of setup old hand place reply new is of_job then =
    let reached = reached_of old hand 0 place reply new is in
    let told = reached.1.0 in
    let done = reached.1.1 in
    let start : Start = record { work = works.Part (next_part old.state); worker = next_worker old.state } in
    let starts : new.state.starts ≡ old.state.starts ++ start ∷ [] =
    ap (λ (s : State). s.starts) done.change.leads in
    let known : IsStartOf new.setup start =
    All-right (IsStartOf new.setup) old.state.starts (start ∷ [])
    (subst (λ (l : List Start). All (IsStartOf new.setup) l) starts then.tidy.known) 0 start (omega arith) in
    let same : new.setup ≡ setup = done.next.setup ∙ of_job.given in
    let known : IsStartOf setup start = subst (λ (z : Setup). IsStartOf z start) same known in
    let part : next_part old.state < setup.cluster.parts = known.work in
    let worker : next_worker old.state < length setup.cluster.slots = known.worker in
    record {
      of_job = of_job;
      replied = told;
      part = subst (λ (r : ℕ). r < setup.cluster.parts) (sym told.part) part;
      worker = subst (λ (w : ℕ). w < length setup.cluster.slots) (sym told.worker) worker;
    }

pub replies : (given : Answer Reply (Unit {0})) {setup : Setup} {old : Job} {hand : HandValue} {new : Job}
    {after : HandValue} → IsReduceStep old hand given new after → IsMasterOf setup old → IsKept new →
    Replies setup given
replies (Accepted place reply) {setup = setup} {old = old} {hand = hand} {new = new} step of_job then =
    (old, reply_of setup old hand place reply new step.answer of_job then)
replies (Ignored why back) step of_job then = tt

-- numbers within the sizes that stand beside the lock are the job's
pub known : {setup : Setup} {sizes : Sizes} → AreSizesOf setup sizes → (call : PlainCall) →
    IsKnownTo sizes (call_of call) → IsKnown setup (call_of call)
known are (plain.Add split w) is =
    (subst (λ n. split < n) are.splits is.0, subst (λ n. w < n) are.workers is.1)
known are (plain.Lose split w) is =
    (subst (λ n. split < n) are.splits is.0, subst (λ n. w < n) are.workers is.1)
known are (plain.Die w) is = subst (λ n. w < n) are.workers is
known are (plain.MapFailed a) is = tt
known are (plain.Withdraw a) is = tt
known are (plain.PartFailed a) is = tt
