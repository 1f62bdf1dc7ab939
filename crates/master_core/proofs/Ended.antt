-- The end of an attempt that a split or a part runs.
use Rattle.std.proofs.Common.{◌≡◌, ℕ, suc, ◌<◌, List, [], ◌∷◌, inl, inr, true, false, None, Some, refl}
use Rattle.std.proofs.Common.{ap, ◌∙◌, sym, subst, arith, length, All}
use Rattle.std.specs.List.{list_any}
use Rattle.std.specs.Prelude.{find}
use Rattle.std.proofs.lemmas.Bool.{cases_Bool, eqb-true, false≢true}
use Rattle.node_ids.specs.Updates.{updated}
use Rattle.shuffle_reduce.specs.Merged.{PartView}
use Rattle.worker_table.specs.Workers.{with_slot_given}
use Rattle.master_state.specs.declared.states.Attempt.{Attempt}
use Rattle.master_state.specs.declared.states.Work.{Work}
use Rattle.master_state.specs.declared.states.Work.TheVariants as works
use Rattle.master_state.specs.States.{Setup, State, start_of, worker_of}
use Rattle.master_state.specs.Tests.{is_numbered, attempts_of, part_attempts, split_at, part_at}
use Rattle.master_state.specs.Refusals.{Call, IsKnown, is_full, no_part_runs, no_split_runs, refusal}
use Rattle.master_state.specs.Changes.{changed, without_attempts, part_without}
use Rattle.master_state.specs.Tidy.{IsTidy, IsToldAs}
use Rattle.master_state.specs.Jobs.{Job}
use Rattle.master_state.proofs.Lists.{find-contains}
use Rattle.master_state.proofs.Places.{split_inside, split_running_is, start_on, without_at, part_without_at}
use Rattle.master_state.proofs.Places.{worker_in}
use Rattle.master_state.proofs.Reasons.{room_left}
use Rattle.master_state.proofs.Running.{TakesSlot, split_takes_slots, part_takes_slot}
use Rattle.master_tables.specs.Entries.{entry_without}
use Rattle.master_tables.specs.Kept.{AreOfSplits}
use Rattle.master_tables.specs.Places.{RunsSplit, RunsPart}
use Rattle.master_tables.proofs.Showing.{made_updated, end_makes_none}
use Rattle.master_core.specs.declared.attempts.End.{End}
use Rattle.master_core.specs.declared.attempts.End.TheVariants.{Failed, Withdrawn}
use Rattle.master_core.specs.declared.master.Master.TheInside.{Inside}
use Rattle.master_core.specs.Attempts.{freed_by, part_end, split_end}
use Rattle.master_core.specs.Inside.{setup_of, state_of, job_of, IsMaster}
use Rattle.master_core.proofs.Accepting.{results_after}

-- the attempt that has the number a, on the worker that its start tells
abbrev pub numbered : ℕ → ℕ → Attempt
numbered a w = record { number = a; worker = w }

pub found_is : (s : State) (a w : ℕ) (work : Work) (attempts : List Attempt) →
    start_of s a ≡ Some (start_on work w) → All (IsToldAs s work) attempts →
    list_any (is_numbered a) attempts ≡ true → find (is_numbered a) attempts ≡ Some (numbered a w)
found_is s a w work [] start told any = absurd (false≢true any)
found_is s a w work (one ∷ attempts) start told any = elim (cases_Bool (is_numbered a one)) [
  | inl here ↦
      let number : one.number ≡ a = eqb-true one.number a here in
      let begun : start_of s one.number ≡ Some (start_on work one.worker) = told 0 one (omega arith) in
      let worker : one.worker ≡ w =
      sym (ap worker_in begun) ∙ ap (λ (n : ℕ). worker_in (start_of s n)) number ∙ ap worker_in start in
      rw here (λ i. Some (record { number = number i; worker = worker i }))
  | inr off ↦ rw off (found_is s a w work attempts start (λ k d l. told (suc k) d (omega (arith, l)))
      (rw off at any))
]

-- it takes a slot of this worker
takes : (s : State) (a w : ℕ) (work : Work) (attempts : List Attempt) →
    start_of s a ≡ Some (start_on work w) → All (IsToldAs s work) attempts →
    All (TakesSlot s.workers) attempts → list_any (is_numbered a) attempts ≡ true →
    TakesSlot s.workers (numbered a w)
takes s a w work attempts start told all any =
    let at = find-contains (is_numbered a) attempts (numbered a w)
    (found_is s a w work attempts start told any) in
    subst (TakesSlot s.workers) at.2 (all at.0 (numbered a w) at.1)

-- the end of an attempt as its place and its worker show it
module _ {setup : Setup} {s : State} {a split w : ℕ} (tidy : IsTidy setup s)
    (run : RunsSplit s a split w) where
  pub split_ended : (end : End) → changed s (split_end end a) ≡ record s {
    workers = freed_by end s.workers split w;
    splits = updated (without_attempts (is_numbered a)) s.splits split;
  }
  split_ended Failed =
      let places = without_at setup s a split w tidy run.start in
      let on : worker_of s a ≡ w = ap worker_in run.start in
      rw (on, split_running_is setup s a split tidy run.runs, places.0, places.1) refl
  split_ended Withdrawn =
      let places = without_at setup s a split w tidy run.start in
      let on : worker_of s a ≡ w = ap worker_in run.start in
      rw (on, places.0, places.1) refl

module _ {setup : Setup} {s : State} {a r w : ℕ} (tidy : IsTidy setup s) (run : RunsPart s a r w) where
  pub part_ended : (end : End) → changed s (part_end end a) ≡ record s {
    workers = with_slot_given s.workers w;
    parts = updated (part_without (is_numbered a)) s.parts r;
  }
  part_ended Failed =
      let places = part_without_at setup s a r w tidy run.start in
      let on : worker_of s a ≡ w = ap worker_in run.start in
      rw (on, places.0, places.1) refl
  part_ended Withdrawn =
      let places = part_without_at setup s a r w tidy run.start in
      let on : worker_of s a ≡ w = ap worker_in run.start in
      rw (on, places.0, places.1) refl

-- such a call asks for nothing and adds no result
pub record IsPlain (setup : Setup) (s : State) (call : Call) : Type 0 where
  pub known : IsKnown setup call
  pub allowed : refusal setup s call ≡ None
  pub results : (results : List PartView) → results ≡ results_after results call

module _ (setup : Setup) (s : State) (a : ℕ) where
  pub split_plain : (end : End) → no_split_runs s a ≡ false → is_full setup s ≡ false →
      IsPlain setup s (split_end end a)
  split_plain Failed ran room = record { known = tt; allowed = rw (ran, room) refl; results = λ _. refl }
  split_plain Withdrawn ran room = record { known = tt; allowed = rw (ran, room) refl; results = λ _. refl }

  pub part_plain : (end : End) → no_split_runs s a ≡ true → no_part_runs s a ≡ false →
      is_full setup s ≡ false → IsPlain setup s (part_end end a)
  part_plain Failed none ran room = record { known = tt; allowed = rw (ran, room) refl; results = λ _. refl }
  part_plain Withdrawn none ran room =
      record { known = tt; allowed = rw (none, ran, room) refl; results = λ _. refl }

module _ {m : Inside} {j : Job} {a k w : ℕ} (was : IsMaster m) (is : job_of m ≡ j) where
  -- what runs in a master's job runs in what it keeps
  pub split_runs_in : RunsSplit j.state a k w → RunsSplit (state_of m) a k w
  split_runs_in run = subst (λ (i : Job). RunsSplit i.state a k w) (sym is) run

  pub part_runs_in : RunsPart j.state a k w → RunsPart (state_of m) a k w
  part_runs_in run = subst (λ (i : Job). RunsPart i.state a k w) (sym is) run

  -- and takes a slot of its worker there
  pub split_slot : RunsSplit j.state a k w → TakesSlot m.workers (numbered a w)
  split_slot run =
      let here = split_runs_in run in
      takes (state_of m) a w (works.Split k) (attempts_of (split_at (state_of m) k)) here.start
      (was.kept.tidy.told k) (split_takes_slots (setup_of m) (state_of m) k was.kept.tidy) here.runs

  pub part_slot : RunsPart j.state a k w → TakesSlot m.workers (numbered a w)
  part_slot run =
      let here = part_runs_in run in
      takes (state_of m) a w (works.Part k) (part_attempts (part_at (state_of m) k)) here.start
      (was.kept.tidy.told_parts k) (part_takes_slot (setup_of m) (state_of m) k was.kept.tidy) here.runs

  -- the split is one of those for which workers may be barred
  pub split_known : RunsSplit j.state a k w → k < length m.workers.barred.rows
  split_known run =
      omega (
        arith,
        split_inside (state_of m) a k (split_runs_in run).runs,
        was.kept.tidy.splits,
        was.kept.tidy.bars,
      )

-- where the history is not full, there is room for one bar more
pub bar_fits : {m : Inside} {j : Job} → IsMaster m → job_of m ≡ j → is_full j.setup j.state ≡ false →
    0 < m.workers.barred.room
bar_fits {m = m} was is free =
    let left = room_left (setup_of m) (state_of m) (ap (λ (i : Job). is_full i.setup i.state) is ∙ free) in
    omega (arith, was.kept.bars, left)

-- the end of an attempt drops no result
pub made_ended : {m : Inside} (a split : ℕ) → IsMaster m →
    AreOfSplits (setup_of m) (updated (entry_without (is_numbered a)) m.splits.items split)
made_ended {m = m} a split was = search (arith, made_updated, end_makes_none)
