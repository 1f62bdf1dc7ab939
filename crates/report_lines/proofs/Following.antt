-- The tables that a past comes to have who lives, who was heard and who holds what in the master's state.
use Rattle.std.proofs.Common.{◌≡◌, ◌∙◌, ℕ, ◌+◌, ◌-◌, ◌<◌, ◌++◌, length}
use Rattle.std.proofs.Common.{List, [], ◌∷◌, refl, sym, ap, arith, subst, append_assoc, append-nil, All}
use Rattle.std.specs.Prelude.{filter, fold, slice_index_or}
use Rattle.std.specs.List.{range_with_len}
use Rattle.std.proofs.lemmas.List.{length-map}
use Rattle.wave_problem.specs.Assignment.{pairs_of}
use Rattle.worker_table.specs.Workers.{Workers, is_silent, swept, with_death, with_return}
use Rattle.worker_table.specs.Workers.{with_slot_given}
use Rattle.block_map.specs.Holdings.{are_full, has_full_among, holders_of, is_holder, with_holder}
use Rattle.block_map.specs.Holdings.{with_holder_of_all, without_holder, without_worker}
use Rattle.master_state.specs.declared.events.Event.{Event}
use Rattle.master_state.specs.declared.events.Event.TheVariants as events
use Rattle.master_state.specs.declared.states.Attempt.{Attempt}
use Rattle.master_state.specs.States.{Setup, State, IsWhole, worker_of}
use Rattle.master_state.specs.Tests.{attempts_of, next_worker, split_at, split_running}
use Rattle.master_state.specs.Refusals.{Call, Join, Add, Lose, Sweep}
use Rattle.master_state.specs.Refusals.{reasons}
use Rattle.master_state.specs.Changes.{after, died, split_started}
use Rattle.master_state.specs.Steps.{IsChange, Leads, Step}
use Rattle.master_state.specs.Tidy.{IsTidy}
use Rattle.master_state.proofs.Histories.{tidy_step}
use Rattle.master_state.proofs.Reasons.{none_applies}
use Rattle.master_state.proofs.Slots.{live-inside}
use Rattle.report_lines.specs.declared.tables.Tables.{Tables}
use Rattle.report_lines.specs.Past.{IsSound, MayAllCome, MayCome, after_sweep, replayed}
use Rattle.report_lines.specs.Past.{without_dead}
use Rattle.report_lines.proofs.Bare.{bare, bare_death, bare_given, bare_return, bare_swept, bare_taken}
use Rattle.std.proofs.lemmas.Bool.{not-false}
use Rattle.report_lines.proofs.Bare.{same_length, same_silent}

-- the replayed tables agree with the workers and the holders of a state
pub record AreOf (workers : Workers) (holders : List (List ℕ)) (t : Tables) : Type 0 where
  pub workers_are : bare t.workers ≡ bare workers
  pub holders_are : t.holders ≡ holders

-- the same, where the state keeps what counts
kept : (workers later : Workers) (holders : List (List ℕ)) (t : Tables) → AreOf workers holders t →
    bare later ≡ bare workers → AreOf later holders t
kept workers later holders t are same =
    record { workers_are = are.workers_are ∙ sym same; holders_are = are.holders_are }

-- ---- deaths and sweeps

of_died : (workers : Workers) (holders : List (List ℕ)) (t : Tables) (w : ℕ) → AreOf workers holders t →
    AreOf (with_death workers w) (without_worker holders w) (without_dead t w)
of_died workers holders t w are = record {
  workers_are = bare_death t.workers w ∙ ap (λ (x : Workers). with_death x w) are.workers_are
      ∙ sym (bare_death workers w);
  holders_are = ap (λ (l : List (List ℕ)). without_worker l w) are.holders_are;
}

of_all_died : (s : State) (t : Tables) (dead : List ℕ) → AreOf s.workers s.holders t →
    AreOf (fold died s dead).workers (fold died s dead).holders (fold without_dead t dead)
of_all_died s t [] are = are
of_all_died s t (w ∷ dead) are =
    of_all_died (died s w) (without_dead t w) dead (of_died s.workers s.holders t w are)

of_swept : (s : State) (t : Tables) (counts : List ℕ) → AreOf s.workers s.holders t →
    AreOf (after s (Sweep counts)).workers (after s (Sweep counts)).holders (after_sweep t counts)
of_swept s t counts are =
    let heard : State = record s { workers = swept s.workers counts; sweeps = s.sweeps ++ counts ∷ [] } in
    let heard_t : Tables = record { workers = swept t.workers counts; holders = t.holders } in
    let workers : bare heard_t.workers ≡ bare heard.workers =
    bare_swept t.workers counts ∙ ap (λ (x : Workers). swept x counts) are.workers_are
    ∙ sym (bare_swept s.workers counts) in
    let all = same_length heard_t.workers heard.workers workers in
    let dead : filter (is_silent heard_t.workers) (range_with_len 0 (length heard_t.workers.each))
    ≡ filter (is_silent heard.workers) (range_with_len 0 (length heard.workers.each)) =
    λ k. filter (λ (w : ℕ). same_silent heard_t.workers heard.workers workers w k)
    (range_with_len 0 (all k)) in
    subst
    (λ (ws : List ℕ). AreOf (after s (Sweep counts)).workers (after s (Sweep counts)).holders
    (fold without_dead heard_t ws))
    (sym dead)
    (of_all_died heard heard_t
    (filter (is_silent heard.workers) (range_with_len 0 (length heard.workers.each)))
    (record { workers_are = workers; holders_are = are.holders_are }))

-- ---- what other events keep

all_given : (workers : Workers) (gone : List Attempt) →
    bare (fold (λ table attempt. with_slot_given table attempt.worker) workers gone) ≡ bare workers
all_given workers [] = refl
all_given workers (attempt ∷ gone) =
    all_given (with_slot_given workers attempt.worker) gone ∙ bare_given workers attempt.worker

all_started : (s : State) (pairs : List (ℕ × ℕ)) →
    bare (fold (λ now pair. split_started now pair.0 pair.1) s pairs).workers ≡ bare s.workers
all_started s [] = refl
all_started s (pair ∷ pairs) =
    all_started (split_started s pair.0 pair.1) pairs ∙ bare_taken s.workers pair.1

started_holders : (s : State) (pairs : List (ℕ × ℕ)) →
    (fold (λ now pair. split_started now pair.0 pair.1) s pairs).holders ≡ s.holders
started_holders s [] = refl
started_holders s (pair ∷ pairs) = started_holders (split_started s pair.0 pair.1) pairs

-- ---- the counts of sweeps

-- the new list of sweeps begins with the old one
abbrev pub GoesOn : List (List ℕ) → List (List ℕ) → Type 0
GoesOn old new = (more : List (List ℕ)) × (new ≡ old ++ more)

goes_on_too : (a b c : List (List ℕ)) → GoesOn a b → GoesOn b c → GoesOn a c
goes_on_too a b c first next = (
  first.0 ++ next.0,
  next.1 ∙ ap (λ (l : List (List ℕ)). l ++ next.0) first.1 ∙ append_assoc a first.0 next.0,
)

pub no_sweep : (a b : List (List ℕ)) → b ≡ a → GoesOn a b
no_sweep a b same = ([], same ∙ sym (append-nil a))

died_sweeps : (s : State) (dead : List ℕ) → (fold died s dead).sweeps ≡ s.sweeps
died_sweeps s [] = refl
died_sweeps s (w ∷ dead) = died_sweeps (died s w) dead

started_sweeps : (s : State) (pairs : List (ℕ × ℕ)) →
    (fold (λ now pair. split_started now pair.0 pair.1) s pairs).sweeps ≡ s.sweeps
started_sweeps s [] = refl
started_sweeps s (pair ∷ pairs) = started_sweeps (split_started s pair.0 pair.1) pairs

swept_sweeps : (s : State) (counts : List ℕ) →
    (after s (Sweep counts)).sweeps ≡ s.sweeps ++ counts ∷ []
swept_sweeps s counts =
    let table = swept s.workers counts in
    died_sweeps (record s { workers = table; sweeps = s.sweeps ++ counts ∷ [] })
    (filter (is_silent table) (range_with_len 0 (length table.each)))

after_goes_on : (s : State) (call : Call) → GoesOn s.sweeps (after s call).sweeps
after_goes_on s (Sweep counts) = (counts ∷ [], swept_sweeps s counts)
after_goes_on s call = no_sweep s.sweeps (after s call).sweeps refl

change_goes_on : (setup : Setup) (s : State) (call : Call) (new : State) → IsChange setup s call new →
    GoesOn s.sweeps new.sweeps
change_goes_on setup s call new change =
    subst (λ (x : State). GoesOn s.sweeps x.sweeps) (sym change.leads) (after_goes_on s call)

pub step_goes_on : (setup : Setup) (s : State) (event : Event) (new : State) → Step setup s event new →
    GoesOn s.sweeps new.sweeps
step_goes_on setup s (events.Wave first count cost) new step =
    no_sweep s.sweeps new.sweeps
    (ap (λ (x : State). x.sweeps) step.1.leads ∙ started_sweeps s (pairs_of step.0))
step_goes_on setup s (events.Ahead first count cost) new step =
    no_sweep s.sweeps new.sweeps
    (ap (λ (x : State). x.sweeps) step.3.leads ∙ started_sweeps s (pairs_of step.2))
step_goes_on setup s (events.MapDone a) new step = change_goes_on setup s _ new step.1
step_goes_on setup s (events.MapFailed a) new step = change_goes_on setup s _ new step
step_goes_on setup s (events.Withdraw a) new step = change_goes_on setup s _ new step
step_goes_on setup s (events.Die w) new step = change_goes_on setup s _ new step
step_goes_on setup s (events.Join w set) new step = change_goes_on setup s _ new step
step_goes_on setup s (events.Add split w) new step = change_goes_on setup s _ new step
step_goes_on setup s (events.Lose split w) new step = change_goes_on setup s _ new step
step_goes_on setup s (events.Sweep place) new step = change_goes_on setup s _ new step.2
step_goes_on setup s (events.ReduceStart a r w) new step = change_goes_on setup s _ new step.3
step_goes_on setup s (events.PartDone a) new step = change_goes_on setup s _ new step.1
step_goes_on setup s (events.PartFailed a) new step = change_goes_on setup s _ new step
step_goes_on setup s (events.Backup a split w) new step = change_goes_on setup s _ new step.1

pub leads_goes_on : (setup : Setup) (s : State) (history : List Event) (new : State) →
    Leads setup s history new → GoesOn s.sweeps new.sweeps
leads_goes_on setup s [] new leads = no_sweep s.sweeps new.sweeps (ap (λ (x : State). x.sweeps) leads)
leads_goes_on setup s (event ∷ history) new leads =
    goes_on_too s.sweeps leads.0.sweeps new.sweeps (step_goes_on setup s event leads.0 leads.1)
    (leads_goes_on setup leads.0 history new leads.2)

at_last : (xs : List (List ℕ)) (x : List ℕ) (ys : List (List ℕ)) →
    slice_index_or ((xs ++ x ∷ []) ++ ys) (length xs) [] ≡ x
at_last [] x ys = refl
at_last (y ∷ xs) x ys = at_last xs x ys

-- ---- one event

abbrev Tables_are : State → Tables → Type 0
Tables_are s t = AreOf s.workers s.holders t

changed_to : (setup : Setup) (s : State) (call : Call) (new : State) (t : Tables) →
    IsChange setup s call new → Tables_are (after s call) t → Tables_are new t
changed_to setup s call new t change are =
    subst (λ (x : State). Tables_are x t) (sym change.leads) are

of_sweep : (setup : Setup) (s : State) (counts : List ℕ) (place : ℕ) (new : State) (sweeps : List (List ℕ))
    (t : Tables) → Tables_are s t → place ≡ length s.sweeps + 1 → IsChange setup s (Sweep counts) new →
    GoesOn new.sweeps sweeps → Tables_are new (after_sweep t (slice_index_or sweeps (place - 1) []))
of_sweep setup s counts place new sweeps t are at change more =
    let whole : sweeps ≡ (s.sweeps ++ counts ∷ []) ++ more.0 =
    more.1 ∙ ap (λ (l : List (List ℕ)). l ++ more.0)
    (ap (λ (x : State). x.sweeps) change.leads ∙ swept_sweeps s counts) in
    let index : place - 1 ≡ length s.sweeps = omega (arith, at) in
    let found : slice_index_or sweeps (place - 1) [] ≡ counts =
    (λ k. slice_index_or (whole k) (index k) []) ∙ at_last s.sweeps counts more.0 in
    subst (λ (l : List ℕ). Tables_are new (after_sweep t l)) (sym found)
    (changed_to setup s (Sweep counts) new (after_sweep t counts) change (of_swept s t counts are))

of_step : (setup : Setup) (s : State) (event : Event) (new : State) (sweeps : List (List ℕ)) (t : Tables) →
    Tables_are s t → Step setup s event new → GoesOn new.sweeps sweeps →
    Tables_are new (replayed sweeps t event)
of_step setup s (events.Wave first count cost) new sweeps t are step more =
    let pairs = pairs_of step.0 in
    subst (λ (x : State). Tables_are x t) (sym step.1.leads) (record {
      workers_are = are.workers_are ∙ sym (all_started s pairs);
      holders_are = are.holders_are ∙ sym (started_holders s pairs);
    })
of_step setup s (events.Ahead first count cost) new sweeps t are step more =
    let pairs = pairs_of step.2 in
    subst (λ (x : State). Tables_are x t) (sym step.3.leads) (record {
      workers_are = are.workers_are ∙ sym (all_started s pairs);
      holders_are = are.holders_are ∙ sym (started_holders s pairs);
    })
of_step setup s (events.MapDone a) new sweeps t are step more =
    changed_to setup s _ new t step.1 (kept s.workers _ s.holders t are
    (all_given s.workers (attempts_of (split_at s (split_running s a)))))
of_step setup s (events.MapFailed a) new sweeps t are step more =
    changed_to setup s _ new t step (kept s.workers _ s.holders t are (bare_given s.workers (worker_of s a)))
of_step setup s (events.Withdraw a) new sweeps t are step more =
    changed_to setup s _ new t step (kept s.workers _ s.holders t are (bare_given s.workers (worker_of s a)))
of_step setup s (events.Die w) new sweeps t are step more =
    changed_to setup s _ new (without_dead t w) step (of_died s.workers s.holders t w are)
of_step setup s (events.Join w set) new sweeps t are step more =
    changed_to setup s _ new _ step (record {
      workers_are = bare_return t.workers w ∙ ap (λ (x : Workers). with_return x w) are.workers_are
          ∙ sym (bare_return s.workers w);
      holders_are = ap (λ (l : List (List ℕ)). with_holder_of_all l set w) are.holders_are;
    })
of_step setup s (events.Add split w) new sweeps t are step more =
    changed_to setup s _ new _ step (record {
      workers_are = are.workers_are;
      holders_are = ap (λ (l : List (List ℕ)). with_holder l split w) are.holders_are;
    })
of_step setup s (events.Lose split w) new sweeps t are step more =
    changed_to setup s _ new _ step (record {
      workers_are = are.workers_are;
      holders_are = ap (λ (l : List (List ℕ)). without_holder l split w) are.holders_are;
    })
of_step setup s (events.Sweep place) new sweeps t are step more =
    of_sweep setup s step.0 place new sweeps t are step.1 step.2 more
of_step setup s (events.ReduceStart a r w) new sweeps t are step more =
    changed_to setup s _ new t step.3
    (kept s.workers _ s.holders t are (bare_taken s.workers (next_worker s)))
of_step setup s (events.PartDone a) new sweeps t are step more =
    changed_to setup s _ new t step.1
    (kept s.workers _ s.holders t are (bare_given s.workers (worker_of s a)))
of_step setup s (events.PartFailed a) new sweeps t are step more =
    changed_to setup s _ new t step (kept s.workers _ s.holders t are (bare_given s.workers (worker_of s a)))
of_step setup s (events.Backup a split w) new sweeps t are step more =
    changed_to setup s _ new t step.1 (kept s.workers _ s.holders t are (bare_taken s.workers w))

-- ---- the event may come

workers_of : (setup : Setup) (s : State) (t : Tables) → Tables_are s t → IsTidy setup s →
    length t.workers.each ≡ length setup.cluster.slots
workers_of setup s t are tidy =
    same_length t.workers s.workers are.workers_are ∙ sym (length-map s.workers.each (λ worker. worker.slots))
    ∙ ap length tidy.slots

may_come : (setup : Setup) (s : State) (event : Event) (new : State) (t : Tables) → Tables_are s t →
    IsTidy setup s → Step setup s event new → MayCome setup.cluster.holder_limit t event
may_come setup s (events.Die w) new t are tidy step =
    omega (arith, step.known, workers_of setup s t are tidy)
may_come setup s (events.Join w set) new t are tidy step =
    let none = none_applies (reasons setup s (Join w set)) step.allowed in (
      omega (arith, step.known.0, workers_of setup s t are tidy),
      ap (λ (l : List (List ℕ)). has_full_among setup.cluster.holder_limit l set) are.holders_are ∙ none.1.0,
    )
may_come setup s (events.Add split w) new t are tidy step =
    let none = none_applies (reasons setup s (Add split w)) step.allowed in (
      omega (arith, step.known.0, ap length are.holders_are, tidy.holders),
      ap (λ (l : List (List ℕ)). is_holder l split w) are.holders_are ∙ none.1.0,
      ap (λ (l : List (List ℕ)). are_full setup.cluster.holder_limit (holders_of l split)) are.holders_are
          ∙ none.1.1.0,
    )
may_come setup s (events.Lose split w) new t are tidy step =
    let none = none_applies (reasons setup s (Lose split w)) step.allowed in (
      omega (arith, step.known.0, ap length are.holders_are, tidy.holders),
      ap (λ (l : List (List ℕ)). is_holder l split w) are.holders_are
          ∙ not-false (is_holder s.holders split w) none.0,
    )
may_come setup s (events.Wave first count cost) new t are tidy step = tt
may_come setup s (events.Ahead first count cost) new t are tidy step = tt
may_come setup s (events.MapDone a) new t are tidy step = tt
may_come setup s (events.MapFailed a) new t are tidy step = tt
may_come setup s (events.Withdraw a) new t are tidy step = tt
may_come setup s (events.Sweep place) new t are tidy step = tt
may_come setup s (events.ReduceStart a r w) new t are tidy step = tt
may_come setup s (events.PartDone a) new t are tidy step = tt
may_come setup s (events.PartFailed a) new t are tidy step = tt
may_come setup s (events.Backup a split w) new t are tidy step = tt

sound : (setup : Setup) (s : State) (t : Tables) → Tables_are s t → IsTidy setup s → IsWhole setup.cluster →
    IsSound setup.cluster.tree t
sound setup s t are tidy whole =
    let all = workers_of setup s t are tidy in
    let same = same_length t.workers s.workers are.workers_are in
    record {
      racks = whole.racks ∙ sym all;
      held = subst (λ (l : List (List ℕ)). All (All (λ h. h < length t.workers.each)) l) (sym are.holders_are)
          (λ i d below j e inside.
          omega (arith, same, live-inside s.workers _ ((tidy.held i d below).live j e inside)));
    }

-- ---- a history

pub of_history : (setup : Setup) (s : State) (history : List Event) (new : State) (sweeps : List (List ℕ))
    (t : Tables) → Tables_are s t → Leads setup s history new → GoesOn new.sweeps sweeps →
    Tables_are new (fold (replayed sweeps) t history)
of_history setup s [] new sweeps t are leads more =
    subst (λ (x : State). Tables_are x t) (sym leads) are
of_history setup s (event ∷ history) new sweeps t are leads more =
    let mid = leads.0 in
    let rest = goes_on_too mid.sweeps new.sweeps sweeps (leads_goes_on setup mid history new leads.2) more in
    of_history setup mid history new sweeps (replayed sweeps t event)
    (of_step setup s event mid sweeps t are leads.1 rest) leads.2 more

pub all_come : (setup : Setup) (s : State) (history : List Event) (new : State) (sweeps : List (List ℕ))
    (t : Tables) → IsWhole setup.cluster → IsTidy setup s → Tables_are s t → Leads setup s history new →
    GoesOn new.sweeps sweeps →
    MayAllCome setup.cluster.tree setup.cluster.holder_limit sweeps t history
all_come setup s [] new sweeps t whole tidy are leads more = sound setup s t are tidy whole
all_come setup s (event ∷ history) new sweeps t whole tidy are leads more =
    let mid = leads.0 in
    let rest = leads_goes_on setup mid history new leads.2 in
    let known = goes_on_too mid.sweeps new.sweeps sweeps rest more in
    let next = of_step setup s event mid sweeps t are leads.1 known in
    let later = tidy_step setup s event mid tidy leads.1 in (
      sound setup s t are tidy whole,
      may_come setup s event mid t are tidy leads.1,
      all_come setup mid history new sweeps (replayed sweeps t event) whole later next leads.2 more,
    )
