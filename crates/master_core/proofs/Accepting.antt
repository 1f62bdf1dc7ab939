-- A master after a call that it accepted.
use Rattle.std.proofs.Common.{◌≡◌, ℕ, ◌+◌, ◌≤◌, List, [], ◌∷◌, ◌++◌, length, Bool, true, false, not}
use Rattle.std.proofs.Common.{None, refl, sym, ap, ◌∙◌, subst}
use Rattle.std.specs.Prelude.{vec_capacity}
use Rattle.std.specs.declared.alloc.Global.{Global}
use Rattle.std.specs.declared.vec.Vec.{Vec}
use Rattle.std.proofs.lemmas.List.{append-nil, length-append}
use Rattle.shuffle_reduce.specs.Merged.{PartView}
use Rattle.worker_table.specs.Workers.{Workers}
use Rattle.master_state.specs.declared.events.Event.{Event}
use Rattle.master_state.specs.declared.states.PartState.{PartState}
use Rattle.master_state.specs.States.{Setup, State}
use Rattle.master_state.specs.Refusals.{Call, IsKnown, PartDone, refusal}
use Rattle.master_state.specs.Changes.{changed, counted}
use Rattle.master_state.specs.Jobs.{Job, IsAccepted, IsKept, event_of, added_by}
use Rattle.master_state.proofs.Keeping.{calls_keep}
use Rattle.master_tables.specs.declared.entries.SplitEntry.{SplitEntry}
use Rattle.compact_lists.specs.Lists.{EventsValue}
use Rattle.master_core.specs.declared.master.Master.TheInside.{Inside}
use Rattle.master_core.specs.Inside.{setup_of, state_of, job_of, HasNearEngine, HasRoom, IsMaster}
use Rattle.master_tables.specs.Kept.{AreOfSplits}

pub is_false : (b : Bool) → true ≡ not b → b ≡ false
is_false true e = cc
is_false false e = refl

-- what no call changes: the setup, the room of each list, and of how many workers a sweep has counts
pub record Rooms : Type 0 where
  pub setup : Setup
  pub events : ℕ
  pub attempts : ℕ
  pub sweeps : ℕ
  pub workers : ℕ
  pub results : ℕ

abbrev pub rooms_of : Inside → Rooms
rooms_of m = record {
  setup = setup_of m;
  events = m.history.room;
  attempts = vec_capacity m.starts;
  sweeps = m.sweeps.room;
  workers = m.sweeps.workers;
  results = vec_capacity m.results;
}

pub room_after : (old new : Inside) → HasRoom old → rooms_of new ≡ rooms_of old → HasRoom new
room_after old new was same =
    let Fit : Rooms → Type 0 = λ rooms.
    (rooms.setup.limits.events ≤ rooms.events) × (rooms.setup.limits.attempts ≤ rooms.attempts)
    × (rooms.setup.limits.sweeps ≤ rooms.sweeps) × (rooms.workers ≡ length rooms.setup.cluster.slots)
    × (rooms.setup.cluster.parts ≤ rooms.results) in
    let fit : Fit (rooms_of new) =
    subst Fit (sym same) (was.events, was.attempts, was.sweeps, was.workers, was.results) in
    record { events = fit.0; attempts = fit.1; sweeps = fit.2; workers = fit.3; results = fit.4 }

-- a master with other tables and another history, whose other lists are the same
abbrev pub with_tables : Inside → Workers → List (List ℕ) → Vec SplitEntry Global → Vec PartState Global →
    EventsValue → Inside
with_tables m workers holders splits parts history =
    record m { workers = workers; holders = holders; splits = splits; parts = parts; history = history }

-- the tables after a change make a state of one event more
pub leads_to : (old new : Inside) (made : State) (event : Event) →
    new.history.items ≡ old.history.items ++ event ∷ [] →
    made ≡ record (state_of new) { events = length old.history.items } → state_of new ≡ counted made
leads_to old new made event history change =
    ap (λ (n : ℕ). record (state_of new) { events = n })
    (ap length history ∙ length-append old.history.items (event ∷ []))
    ∙ sym (ap counted change)

-- the results of a master after a call
abbrev pub results_after : List PartView → Call → List PartView
results_after results (PartDone a result) = results ++ result ∷ []
results_after results call = results

results_are : (results : List PartView) (call : Call) → results_after results call ≡ results ++ added_by call
results_are results (PartDone a result) = refl
results_are results call = sym (append-nil results)

-- what a master answers of a call that it accepted, and keeps after it
pub record Follows (new : Inside) (j : Job) (call : Call) (place : ℕ) : Type 0 where
  pub accepted : IsAccepted j call place (job_of new)
  pub master : IsMaster new

pub master_of : {new : Inside} {j : Job} {call : Call} {place : ℕ} → Follows new j call place → IsMaster new
master_of after = after.master

-- so it is where what is kept is kept, in lists that keep their rooms
pub still_master : {old new : Inside} → IsMaster old → rooms_of new ≡ rooms_of old → IsKept (job_of new) →
    AreOfSplits (setup_of old) new.splits.items → HasNearEngine new → IsMaster new
still_master {old = old} {new = new} was rooms kept made near = record {
  kept = kept;
  room = room_after old new was.room rooms;
  made = subst (λ (s : Setup). AreOfSplits s new.splits.items) (sym (ap (λ (of : Rooms). of.setup) rooms))
      made;
  near = near;
}

-- and so where no reason applies, the event is recorded and the change made
module _ {old new : Inside} {j : Job} {place : ℕ} (call : Call) (was : IsMaster old)
    (is : job_of old ≡ j) where
  pub follows : IsKnown j.setup call → refusal j.setup j.state call ≡ None → rooms_of new ≡ rooms_of old →
      new.history.items ≡ old.history.items ++ event_of (state_of old) call ∷ [] →
      place ≡ length old.history.items + 1 →
      changed (state_of old) call ≡ record (state_of new) { events = length old.history.items } →
      new.results.items ≡ results_after old.results.items call → AreOfSplits (setup_of old) new.splits.items →
      HasNearEngine new → Follows new j call place
  follows known allowed rooms history place_is change results made near =
      let accepted : IsAccepted (job_of old) call place (job_of new) = record {
        change = record {
          known = subst (λ (i : Job). IsKnown i.setup call) (sym is) known;
          allowed = ap (λ (i : Job). refusal i.setup i.state call) is ∙ allowed;
          leads = leads_to old new (changed (state_of old) call) (event_of (state_of old) call) history
              change;
        };
        next = record {
          place_is = place_is;
          setup = ap (λ (of : Rooms). of.setup) rooms;
          history = history;
          results = results ∙ results_are old.results.items call;
        };
      } in
      record {
        accepted = subst (λ (i : Job). IsAccepted i call place (job_of new)) is accepted;
        master = still_master was rooms
            (calls_keep (job_of old) (job_of new) call place was.kept accepted) made near;
      }
