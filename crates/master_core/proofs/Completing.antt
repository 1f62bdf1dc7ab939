-- A master after the result of a split or a part.
use Rattle.std.proofs.Common.{◌≡◌, ◌≢◌, ℕ, List, [], ◌∷◌, map, Bool, false, Option}
use Rattle.std.proofs.Common.{Some, None, refl, ap, ◌∙◌, sym, arith, All}
use Rattle.std.specs.Option.{option_map, option_map_or}
use Rattle.std.proofs.lemmas.Bool.{cases_eq, eqb-true, ne_eqb, not-false, or_parts}
use Rattle.std.proofs.lemmas.Option.{same_Some, none-some}
use Rattle.node_ids.specs.Updates.{updated}
use Rattle.node_ids.proofs.Updating.{length-updated, get-updated_same, get-updated_other}
use Rattle.word_map.specs.Runs.{MapView}
use Rattle.word_map.proofs.TextLemmas.{Decides-same_text}
use Rattle.shuffle_reduce.specs.Merged.{PartView}
use Rattle.worker_table.specs.Workers.{Workers, with_slot_given}
use Rattle.master_state.specs.declared.answers.Why.TheVariants.{OldAttempt, WrongInput, HistoryFull}
use Rattle.master_state.specs.declared.states.Attempt.{Attempt}
use Rattle.master_state.specs.declared.states.Work.TheVariants as works
use Rattle.master_state.specs.declared.states.SplitState.{SplitState}
use Rattle.master_state.specs.declared.states.SplitState.TheVariants as states
use Rattle.master_state.specs.States.{Setup, State}
use Rattle.master_state.specs.Refusals.{MapDone, PartDone, first_true, is_full, is_wrong_map}
use Rattle.master_state.specs.Refusals.{is_wrong_part, refusal}
use Rattle.master_state.specs.Tests.{attempts_of, split_at}
use Rattle.master_state.specs.Changes.{done_by, part_done_by, with_map_done, with_part_done}
use Rattle.master_state.specs.Tidy.{IsTidy}
use Rattle.master_state.specs.Jobs.{Job}
use Rattle.master_state.proofs.Lists.{updated-agree}
use Rattle.master_state.proofs.Places.{done_at, part_done_at, part_running_is, split_running_is, worker_in}
use Rattle.master_state.proofs.Running.{TakesSlot, split_takes_slots}
use Rattle.master_state.proofs.Slots.{taken_given}
use Rattle.master_tables.specs.declared.entries.SplitEntry.{SplitEntry}
use Rattle.master_tables.specs.declared.entries.SplitEntry.TheVariants.{Done}
use Rattle.master_core.specs.declared.attempts.Found.TheVariants.{Split, Part}
use Rattle.master_core.specs.declared.master.Master.TheInside.{Inside}
use Rattle.master_core.specs.Attempts.{IsFound}
use Rattle.master_tables.specs.Entries.{shown_as}
use Rattle.master_core.specs.Inside.{job_of, IsMaster}
use Rattle.master_tables.specs.Kept.{AreOfSplits, IsOfSplit}
use Rattle.master_tables.specs.Places.{RunsPart, RunsSplit}
use Rattle.master_tables.specs.Slots.{AreTaken, with_slots_given}
use Rattle.master_core.proofs.Ended.{found_is, numbered}
use Rattle.master_core.proofs.Found.{tidy_at}
use Rattle.master_tables.proofs.Showing.{shown-updated}

-- the first attempt that is done makes its split done
module _ {setup : Setup} {s : State} {a split w : ℕ} (tidy : IsTidy setup s)
    (run : RunsSplit s a split w) where
  pub done_is : with_map_done s a ≡ record s {
    workers = with_slots_given s.workers (attempts_of (split_at s split));
    splits = updated (λ _. states.Done (numbered a w)) s.splits split;
  }
  done_is =
      let done_to : done_by a (split_at s split) ≡ states.Done (numbered a w) =
      ap (λ (found : Option Attempt). option_map_or states.Done found (split_at s split))
      (found_is s a w (works.Split split) (attempts_of (split_at s split)) run.start (tidy.told split)
      run.runs) in
      let places = done_at setup s a split w tidy run.start
      ∙ updated-agree (done_by a) (λ _. states.Done (numbered a w)) s.splits split states.Pending done_to in
      rw (split_running_is setup s a split tidy run.runs, places) refl

pub part_done_is : {setup : Setup} {s : State} {a r w : ℕ} → IsTidy setup s → RunsPart s a r w →
    with_part_done s a ≡ record s {
      workers = with_slot_given s.workers w;
      parts = updated (part_done_by a) s.parts r;
    }
part_done_is {setup = setup} {s = s} {a = a} {r = r} {w = w} tidy run = grind (arith, worker_in, part_done_at)

-- what a split runs takes slots, of two workers where it runs two
two_taken : (t : Workers) (one other : Attempt) → TakesSlot t one → TakesSlot t other →
    one.worker ≢ other.worker → AreTaken t (one ∷ other ∷ [])
two_taken t one other first second apart = grind (arith, taken_given, ne_eqb, length-updated)

all_taken : (t : Workers) (state : SplitState) → All (TakesSlot t) (attempts_of state) →
    ((a b : Attempt) → state ≡ states.Running a (Some b) → a.worker ≢ b.worker) →
    AreTaken t (attempts_of state)
all_taken t states.Pending takes apart = tt
all_taken t (states.Running one None) takes apart =
    let first = takes 0 one (omega arith) in
    (first.known, first.taken, tt)
all_taken t (states.Running one (Some other)) takes apart =
    two_taken t one other (takes 0 one (omega arith)) (takes 1 one (omega arith)) (apart one other refl)
all_taken t (states.Done one) takes apart = tt

pub split_taken : (setup : Setup) (s : State) (split : ℕ) → IsTidy setup s →
    AreTaken s.workers (attempts_of (split_at s split))
split_taken setup s split tidy =
    all_taken s.workers (split_at s split) (split_takes_slots setup s split tidy) (tidy.apart split)

-- a result that is not wrong is of its split
pub of_split : (setup : Setup) (split : ℕ) (result : MapView) → is_wrong_map setup split result ≡ false →
    IsOfSplit setup split result
of_split setup split result right = grind (arith, or_parts, Decides-same_text, not-false, eqb-true)

-- a split that is done shows as done, and keeps the result of its split
pub shown-done_at : (attempt : Attempt) (result : MapView) (entries : List SplitEntry) (k : ℕ) →
    map shown_as (updated (λ _. Done attempt result) entries k)
    ≡ updated (λ _. states.Done attempt) (map shown_as entries) k
shown-done_at attempt result =
    shown-updated (λ _. Done attempt result) (λ _. states.Done attempt) (λ entry. refl)

abbrev kept_in : MapView → SplitEntry → MapView
kept_in other (Done attempt result) = result
kept_in other entry = other

new_result : (one attempt : Attempt) (made result : MapView) (found : Option SplitEntry) →
    option_map (λ _. Done one made) found ≡ Some (Done attempt result) → result ≡ made
new_result one attempt made result None e = absurd (none-some (Done attempt result) e)
new_result one attempt made result (Some entry) e = sym (ap (kept_in made) (same_Some _ _ e))

pub made_done : (setup : Setup) (one : Attempt) (made : MapView) (entries : List SplitEntry) (k : ℕ) →
    IsOfSplit setup k made → AreOfSplits setup entries →
    AreOfSplits setup (updated (λ _. Done one made) entries k)
made_done setup one made entries k of were split attempt result found =
    grind (arith, cases_eq, new_result, get-updated_same, get-updated_other)

-- why a result is refused that is of an attempt that runs, by what its tests say
three_reasons : (old wrong full p q : Bool) → old ≡ false → wrong ≡ p → full ≡ q →
    first_true ((old, OldAttempt) ∷ (wrong, WrongInput) ∷ (full, HistoryFull) ∷ [])
    ≡ first_true ((p, WrongInput) ∷ (q, HistoryFull) ∷ [])
three_reasons old wrong full p q ran is filled = rw (ran, is, filled) refl

module _ {m : Inside} {j : Job} {a k w : ℕ} {test wrong full : Bool} (was : IsMaster m)
    (is : job_of m ≡ j) where
  pub map_refusal : (result : MapView) → IsFound j.state a (Split (record { split = k; worker = w })) →
      ((setup : Setup) → setup.cluster ≡ m.cluster → test ≡ is_wrong_map setup k result) → test ≡ wrong →
      is_full j.setup j.state ≡ full →
      refusal j.setup j.state (MapDone a result) ≡ first_true ((wrong, WrongInput) ∷ (full, HistoryFull) ∷ [])
  map_refusal result found told tested filled =
      three_reasons _ _ _ _ _ found.1
      (ap (λ n. is_wrong_map j.setup n result)
      (split_running_is j.setup j.state a k (tidy_at was is) found.0.runs)
      ∙ sym (told j.setup (ap (λ (i : Job). i.setup.cluster) (sym is))) ∙ tested) filled

  pub part_refusal : (result : PartView) → IsFound j.state a (Part (record { part = k; worker = w })) →
      ((setup : Setup) → setup.cluster ≡ m.cluster → test ≡ is_wrong_part setup k result) → test ≡ wrong →
      is_full j.setup j.state ≡ full →
      refusal j.setup j.state (PartDone a result)
      ≡ first_true ((wrong, WrongInput) ∷ (full, HistoryFull) ∷ [])
  part_refusal result found told tested filled =
      three_reasons _ _ _ _ _ found.2
      (ap (λ n. is_wrong_part j.setup n result)
      (part_running_is j.setup j.state a k (tidy_at was is) found.0.runs)
      ∙ sym (told j.setup (ap (λ (i : Job). i.setup.cluster) (sym is))) ∙ tested) filled
