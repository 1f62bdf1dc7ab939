-- Starts keep a state tidy: backups, reduce attempts, and the starts of a wave.
use Rattle.std.proofs.Common.{[], ◌≡◌, ◌≢◌, ℕ, zero, suc, ◌+◌, ◌<◌, ◌≤◌, ◌==◌, ◌⊎◌, List, ◌∷◌, ◌++◌, length}
use Rattle.std.proofs.Common.{cond, true, not, Some, None, refl, sym, ap, ◌∙◌, add-one, arith}
use Rattle.std.proofs.Common.{inl, inr, All, AllPairs, subst}
use Rattle.std.specs.List.{list_any, list_all}
use Rattle.std.specs.Prelude.{◌||◌, flat_map, fold, count_by}
use Rattle.std.proofs.lemmas.Bool.{false≢true, eq-eqb, cases_eq, not-true, not-false}
use Rattle.std.proofs.lemmas.Bool.{eqb-false, or_parts, and_from, lt-ltb}
use Rattle.std.proofs.lemmas.List.{length-append, length-map}
use Rattle.std.proofs.lemmas.List.Elements.{All-nil, All-cons, All-append, All-push, All-weaker}
use Rattle.std.proofs.lemmas.List.Sums.{sum_by-cons, sum_by-append}
use Rattle.std.proofs.lemmas.Option.{slice_get-get_or, none-some}
use Rattle.node_ids.specs.Updates.{updated}
use Rattle.node_ids.proofs.Updating.{length-updated, sum_by-updated}
use Rattle.wave_problem.specs.Assignment.{load}
use Rattle.worker_table.specs.Workers.{Workers, is_live, taken_slots, has_free_slot, worker_at}
use Rattle.worker_table.specs.Workers.{with_slot_taken}
use Rattle.master_state.specs.declared.states.Attempt.{Attempt}
use Rattle.master_state.specs.declared.states.Start.{Start}
use Rattle.master_state.specs.declared.states.Work.{Work}
use Rattle.master_state.specs.declared.states.Work.TheVariants as works
use Rattle.master_state.specs.declared.states.SplitState.{SplitState}
use Rattle.master_state.specs.declared.states.SplitState.TheVariants.{Pending, Running, Done}
use Rattle.master_state.specs.declared.states.PartState.{PartState}
use Rattle.master_state.specs.declared.states.PartState.TheVariants as part
use Rattle.master_state.specs.States.{Setup, State, start_of, next_attempt}
use Rattle.master_state.specs.Tests.{is_on, attempts_of, part_attempts, running, all_running, is_done}
use Rattle.master_state.specs.Tests.{split_at, part_at, next_on, next_part, next_worker, part_is_pending}
use Rattle.master_state.specs.Refusals.{ReduceStart, Backup, refusal, reasons, takes_backup}
use Rattle.master_state.specs.Changes.{with_start, split_started, with_reduce_started, after}
use Rattle.master_state.specs.Tidy.{IsTidy, IsStartOf, IsToldAs}
use Rattle.master_state.proofs.Lists.{All-left, All-right, All-one_changed, at-updated_other, at-updated_same}
use Rattle.master_state.proofs.Lists.{inside_of, updated-agree, slice_get-append, slice_get-push, any_inside}
use Rattle.master_state.proofs.Lists.{any_found}
use Rattle.master_state.proofs.Facts.{count-all_running}
use Rattle.master_state.proofs.Less.{has_two}
use Rattle.master_state.proofs.Places.{start_on}
use Rattle.master_state.proofs.Slots.{nobody, fit_taken, live-inside, live_taken, slots_taken, taken_taken}
use Rattle.master_state.proofs.Reasons.{none_applies, attempts_left}
use Rattle.master_state.proofs.Tidying.{tidy_made, tidy_counted, fit_of, held_kept}

-- what the starts told, they tell when there is one more
told_more : (s : State) (work : Work) (w a : ℕ) (start : Start) → start_of s a ≡ Some start →
    start_of (with_start s work w) a ≡ Some start
told_more s work w zero start told = absurd (none-some start told)
told_more s work w (suc a) start told = slice_get-append s.starts (start_on work w ∷ []) a start told

-- and of the next attempt what it was started for
told_next : (s : State) (work : Work) (w : ℕ) →
    start_of (with_start s work w) (next_attempt s) ≡ Some (start_on work w)
told_next s work w = search (arith, start_on, add-one, slice_get-push)

all_told_more : (s : State) (work other : Work) (w : ℕ) (attempts : List Attempt) →
    All (IsToldAs s other) attempts →
    All (IsToldAs (with_start s work w) other) attempts
all_told_more s work other w attempts told = search (arith, All-weaker, told_more, start_on)

-- one attempt more among those of a place
one_more : (s : State) (work : Work) (w : ℕ) (attempts : List Attempt) → All (IsToldAs s work) attempts →
    All (IsToldAs (with_start s work w) work) (attempts ++ next_on s w ∷ [])
one_more s work w attempts told = search (arith, All-append, all_told_more, All-cons, told_next, All-nil)

-- a worker with a free slot lives, and has one
pub free_parts : (t : Workers) (w : ℕ) → has_free_slot (worker_at t w) ≡ true →
    (is_live t w ≡ true) × (taken_slots t w < (worker_at t w).slots)
free_parts t w free = grind arith

-- a live worker is one of the cluster
worker_known : (setup : Setup) (s : State) (w : ℕ) → IsTidy setup s → is_live s.workers w ≡ true →
    w < length setup.cluster.slots
worker_known setup s w tidy live = grind (arith, live-inside, length-map)

-- the split may run one attempt more, on w
pub TakesOne : ℕ → SplitState → Type 0
TakesOne w split = (split ≡ Pending) ⊎ ((a : Attempt) × (split ≡ Running a None) × (a.worker ≢ w))

abbrev with_next : Attempt → SplitState → SplitState
with_next next split = running (attempts_of split ++ next ∷ [])

-- what such a split runs then
attempts-with_next : (next : Attempt) (w : ℕ) (split : SplitState) → TakesOne w split →
    attempts_of (with_next next split) ≡ attempts_of split ++ next ∷ []
unfolding TakesOne
attempts-with_next next w split (inl pending) = rw pending refl
attempts-with_next next w split (inr one) = rw one.1 refl

two_apart : (next : Attempt) (w : ℕ) (split : SplitState) → TakesOne w split → next.worker ≡ w →
    (a b : Attempt) →
    with_next next split ≡ Running a (Some b) → a.worker ≢ b.worker
unfolding TakesOne
two_apart next w split (inl pending) on a b e =
    absurd (false≢true (ap has_two (sym (ap (with_next next) pending) ∙ e)))
two_apart next w split (inr one) on a b e = grind arith

never_done : (next : Attempt) (w : ℕ) (split : SplitState) → TakesOne w split → (a : Attempt) →
    with_next next split ≡ Done a → ⊥
unfolding TakesOne
never_done next w split (inl pending) a e = false≢true (ap is_done (sym (ap (with_next next) pending) ∙ e))
never_done next w split (inr one) a e = false≢true (ap is_done (sym (ap (with_next next) one.1) ∙ e))

-- the slots that are taken with one attempt more
count_next : (w v : ℕ) (next : Attempt) (attempts : List Attempt) → next.worker ≡ v →
    count_by (is_on w) (attempts ++ next ∷ []) ≡ count_by (is_on w) attempts + cond (v == w) 1 0
count_next w v next attempts on = grind (arith, sum_by-append)

-- the split runs one attempt more
pub tidy_split_started : (setup : Setup) (s : State) (k v : ℕ) → IsTidy setup s → k < length s.splits →
    TakesOne v (split_at s k) → has_free_slot (worker_at s.workers v) ≡ true →
    length s.starts + 1 ≤ setup.limits.attempts →
    IsTidy setup (split_started s k v)
tidy_split_started setup s k v tidy inside takes free room =
    let slot = free_parts s.workers v free in
    let next = next_on s v in
    let more = attempts-with_next next v (split_at s k) takes in
    let here = at-updated_same (with_next next) s.splits k Pending inside in
    tidy_made setup (split_started s k v) (fit_taken setup s.workers v (fit_of setup s tidy) slot.1)
    (record {
      holders = tidy.holders;
      splits = length-updated (with_next next) s.splits k ∙ tidy.splits;
      parts = tidy.parts;
      events = tidy.events;
      attempts = omega (arith, length-append s.starts (start_on (works.Split k) v ∷ []), room);
      sweeps = tidy.sweeps;
      known = All-push (IsStartOf setup) s.starts (start_on (works.Split k) v) tidy.known
          (record { work = omega (arith, inside, tidy.splits); worker = worker_known setup s v tidy slot.0 });
    })
    (held_kept s.workers (with_slot_taken s.workers v) s.holders (λ w live. live_taken s.workers v w
    ∙ live) tidy.held)
    (λ w.
    let slots : SplitState → ℕ = λ split. count_by (is_on w) (attempts_of split) in
    let was = slice_get-get_or s.splits k Pending inside in
    omega (
      arith,
      taken_taken s.workers v w (live-inside s.workers v slot.0),
      tidy.taken w,
      count-all_running s w,
      count-all_running (split_started s k v) w,
      sum_by-updated slots (with_next next) s.splits k (split_at s k) was,
      ap (count_by (is_on w)) more,
      count_next w v next (attempts_of (split_at s k)) refl,
    ))
    (let Lives : Attempt → Type 0 = λ attempt. is_live (with_slot_taken s.workers v) attempt.worker ≡ true in
    let splits = flat_map attempts_of s.splits in
    let parts = flat_map part_attempts s.parts in
    let lived : All Lives (all_running s) =
    All-weaker (λ attempt. is_live s.workers attempt.worker ≡ true) Lives
    (λ attempt live. live_taken s.workers v attempt.worker ∙ live) (all_running s) tidy.live in
    All-append Lives (flat_map attempts_of (updated (with_next next) s.splits k)) parts
    (All-one_changed Lives attempts_of (with_next next) s.splits k Pending
    (λ old. rw more (All-append Lives (attempts_of (split_at s k)) (next ∷ []) old
    (All-cons Lives next [] (live_taken s.workers v v ∙ slot.0) (All-nil Lives))))
    (All-left Lives splits parts lived))
    (All-right Lives splits parts lived))
    (record {
      apart = λ j a b. elim (cases_eq j k) [
        | inl same ↦ grind (arith, two_apart)
        | inr other ↦ λ e. tidy.apart j a b
            (sym (at-updated_other (with_next next) s.splits k j Pending other) ∙ e)
      ];
      told = λ j. elim (cases_eq j k) [
        | inl same ↦ subst (λ n. All (IsToldAs (split_started s k v) (works.Split n))
            (attempts_of (split_at (split_started s k v) n))) (sym same)
            (rw (here, more) (one_more s (works.Split k) v (attempts_of (split_at s k)) (tidy.told k)))
        | inr other ↦ rw (at-updated_other (with_next next) s.splits k j Pending other)
            (all_told_more s (works.Split k) (works.Split j) v (attempts_of (split_at s j)) (tidy.told j))
      ];
      told_parts = λ r. all_told_more s (works.Split k) (works.Part r) v (part_attempts (part_at s r))
          (tidy.told_parts r);
      told_done = λ j a. elim (cases_eq j k) [
        | inl same ↦ grind arith
        | inr other ↦ λ e. told_more s (works.Split k) v a.number (start_on (works.Split j) a.worker)
            (tidy.told_done j a (sym (at-updated_other (with_next next) s.splits k j Pending other) ∙ e))
      ];
    })

-- a split that takes a backup runs one attempt, elsewhere
takes_one : (w : ℕ) (split : SplitState) → takes_backup w split ≡ true → TakesOne w split
unfolding TakesOne
takes_one w Pending takes = absurd (false≢true takes)
takes_one w (Running a None) takes = inr (a, refl, eqb-false a.worker w (not-true (is_on w a) takes))
takes_one w (Running a (Some b)) takes = absurd (false≢true takes)
takes_one w (Done a) takes = absurd (false≢true takes)

split_known : (s : State) (w k : ℕ) → takes_backup w (split_at s k) ≡ true → k < length s.splits
split_known s w k takes = inside_of (takes_backup w) s.splits k Pending refl takes

pub tidy_backup : (setup : Setup) (s : State) (k w : ℕ) → IsTidy setup s →
    refusal setup s (Backup k w) ≡ None →
    IsTidy setup (after s (Backup k w))
tidy_backup setup s k w tidy allowed =
    let none = none_applies (reasons setup s (Backup k w)) allowed in
    let room = attempts_left setup s 1 none.1.1.1.1.0 in
    let takes = not-false (takes_backup w (split_at s k)) none.1.0 in
    let free = not-false (has_free_slot (worker_at s.workers w))
    (or_parts _ (not (has_free_slot (worker_at s.workers w))) none.1.1.0).1 in
    search (arith, tidy_counted, tidy_split_started, split_known, takes_one)

-- a pending part runs the next attempt
abbrev pub part_started : State → ℕ → ℕ → State
part_started s r v = record (with_start s (works.Part r) v) {
  parts = updated (λ _. part.Running (next_on s v)) s.parts r;
}

is_pending_part : (state : PartState) → part_is_pending state ≡ true → part_attempts state ≡ []
is_pending_part part.Pending e = refl
is_pending_part (part.Running a) e = absurd (false≢true e)
is_pending_part part.Done e = refl

pub tidy_part_started : (setup : Setup) (s : State) (r v : ℕ) → IsTidy setup s → r < length s.parts →
    part_is_pending (part_at s r) ≡ true → has_free_slot (worker_at s.workers v) ≡ true →
    length s.starts + 1 ≤ setup.limits.attempts → IsTidy setup (part_started s r v)
tidy_part_started setup s r v tidy inside pending free room =
    let slot = free_parts s.workers v free in
    let next = next_on s v in
    let change : PartState → PartState = λ _. part.Running next in
    let here = at-updated_same change s.parts r part.Pending inside in
    tidy_made setup (part_started s r v) (fit_taken setup s.workers v (fit_of setup s tidy) slot.1)
    (record {
      holders = tidy.holders;
      splits = tidy.splits;
      parts = length-updated change s.parts r ∙ tidy.parts;
      events = tidy.events;
      attempts = omega (arith, length-append s.starts (start_on (works.Part r) v ∷ []), room);
      sweeps = tidy.sweeps;
      known = All-push (IsStartOf setup) s.starts (start_on (works.Part r) v) tidy.known
          (record { work = omega (arith, inside, tidy.parts); worker = worker_known setup s v tidy slot.0 });
    })
    (held_kept s.workers (with_slot_taken s.workers v) s.holders (λ w live. live_taken s.workers v w
    ∙ live) tidy.held)
    (λ w.
    let slots : PartState → ℕ = λ state. count_by (is_on w) (part_attempts state) in
    let was = slice_get-get_or s.parts r part.Pending inside in
    omega (
      arith,
      taken_taken s.workers v w (live-inside s.workers v slot.0),
      tidy.taken w,
      count-all_running s w,
      count-all_running (part_started s r v) w,
      sum_by-updated slots change s.parts r (part_at s r) was,
      ap (count_by (is_on w)) (is_pending_part (part_at s r) pending),
      count_next w v next [] refl,
    ))
    (let Lives : Attempt → Type 0 = λ attempt. is_live (with_slot_taken s.workers v) attempt.worker ≡ true in
    let splits = flat_map attempts_of s.splits in
    let parts = flat_map part_attempts s.parts in
    let lived : All Lives (all_running s) =
    All-weaker (λ attempt. is_live s.workers attempt.worker ≡ true) Lives
    (λ attempt live. live_taken s.workers v attempt.worker ∙ live) (all_running s) tidy.live in
    All-append Lives splits (flat_map part_attempts (updated change s.parts r))
    (All-left Lives splits parts lived)
    (All-one_changed Lives part_attempts change s.parts r part.Pending
    (λ old. All-cons Lives next [] (live_taken s.workers v v ∙ slot.0) (All-nil Lives))
    (All-right Lives splits parts lived)))
    (record {
      apart = tidy.apart;
      told = λ j. all_told_more s (works.Part r) (works.Split j) v (attempts_of (split_at s j)) (tidy.told j);
      told_parts = λ j. elim (cases_eq j r) [
        | inl same ↦ subst (λ n. All (IsToldAs (part_started s r v) (works.Part n))
            (part_attempts (part_at (part_started s r v) n))) (sym same)
            (rw here (one_more s (works.Part r) v [] (All-nil (IsToldAs s (works.Part r)))))
        | inr other ↦ rw (at-updated_other change s.parts r j part.Pending other)
            (all_told_more s (works.Part r) (works.Part j) v (part_attempts (part_at s j))
            (tidy.told_parts j))
      ];
      told_done = λ j a e. told_more s (works.Part r) v a.number (start_on (works.Split j) a.worker)
          (tidy.told_done j a e);
    })

pub tidy_reduce_start : (setup : Setup) (s : State) → IsTidy setup s → refusal setup s ReduceStart ≡ None →
    IsTidy setup (after s ReduceStart)
tidy_reduce_start setup s tidy allowed =
    let none = none_applies (reasons setup s ReduceStart) allowed in
    let room = attempts_left setup s 1 none.1.0 in
    let workers = or_parts (not (list_all is_done s.splits) || not (list_any part_is_pending s.parts))
    (not (list_any has_free_slot s.workers.each)) none.0 in
    let parts = or_parts (not (list_all is_done s.splits)) (not (list_any part_is_pending s.parts))
    workers.0 in
    let some_part = not-false (list_any part_is_pending s.parts) parts.1 in
    let some_worker = not-false (list_any has_free_slot s.workers.each) workers.1 in
    tidy_counted setup (with_reduce_started s)
    (tidy_part_started setup s (next_part s) (next_worker s) tidy
    (any_inside part_is_pending s.parts some_part)
    (any_found part_is_pending s.parts part.Pending some_part)
    (any_found has_free_slot s.workers.each nobody some_worker) room.1) room.0

-- the starts of a wave: pending splits, each once, on live workers with slots for all of them
pub record AreStarts (setup : Setup) (s : State) (pairs : List (ℕ × ℕ)) : Type 0 where
  pub pending : All (λ pair. split_at s pair.0 ≡ Pending) pairs
  pub known : All (λ pair. pair.0 < length s.splits) pairs
  pub once : AllPairs (λ one other. one.0 ≢ other.0) pairs
  pub live : All (λ pair. is_live s.workers pair.1 ≡ true) pairs
  pub free : (w : ℕ) → taken_slots s.workers w + load pairs w ≤ (worker_at s.workers w).slots
  pub room : length s.starts + length pairs ≤ setup.limits.attempts

-- the first is one that may start, and the others are starts after it
pub first_free : (setup : Setup) (s : State) (k v : ℕ) (pairs : List (ℕ × ℕ)) →
    AreStarts setup s ((k, v) ∷ pairs) →
    has_free_slot (worker_at s.workers v) ≡ true
first_free setup s k v pairs starts =
    let counted : ℕ = cond (v == v) 1 0 in
    let one : counted ≡ 1 = ap (λ b. let n : ℕ = cond b 1 0 in n) (eq-eqb v v refl) in
    and_from (is_live s.workers v) _ (starts.live 0 (k, v) (omega arith))
    (lt-ltb (taken_slots s.workers v) (worker_at s.workers v).slots
    (omega (arith, starts.free v, sum_by-cons (λ pair. cond (pair.1 == v) 1 0) (k, v) pairs, one)))

pub starts_after : (setup : Setup) (s : State) (k v : ℕ) (pairs : List (ℕ × ℕ)) →
    AreStarts setup s ((k, v) ∷ pairs) →
    AreStarts setup (split_started s k v) pairs
starts_after setup s k v pairs starts =
    let change = with_next (next_on s v) in
    let inside = live-inside s.workers v (starts.live 0 (k, v) (omega arith)) in
    record {
      pending = λ i d l.
          at-updated_other change s.splits k _ Pending
          (λ e. starts.once 0 (suc i) d (omega arith) (omega (arith, l)) (sym e))
          ∙ starts.pending (suc i) d (omega (arith, l));
      known = λ i d l. omega (
        arith,
        length-updated change s.splits k,
        starts.known (suc i) d (omega (arith, l)),
      );
      once = λ i j d below l. starts.once (suc i) (suc j) d (omega (arith, below)) (omega (arith, l));
      live = λ i d l. live_taken s.workers v _ ∙ starts.live (suc i) d (omega (arith, l));
      free = λ w. omega (
        arith,
        taken_taken s.workers v w inside,
        slots_taken s.workers v w,
        sum_by-cons (λ pair. cond (pair.1 == w) 1 0) (k, v) pairs,
        starts.free w,
      );
      room = omega (arith, length-append s.starts (start_on (works.Split k) v ∷ []), starts.room);
    }

-- the starts of a wave are made, one after another
abbrev pub all_started : State → List (ℕ × ℕ) → State
all_started s pairs = fold (λ now pair. split_started now pair.0 pair.1) s pairs

pub tidy_all_started : (setup : Setup) (s : State) (pairs : List (ℕ × ℕ)) → IsTidy setup s →
    AreStarts setup s pairs →
    IsTidy setup (all_started s pairs)
unfolding TakesOne
tidy_all_started setup s [] tidy starts = tidy
tidy_all_started setup s ((k, v) ∷ pairs) tidy starts =
    tidy_all_started setup (split_started s k v) pairs
    (tidy_split_started setup s k v tidy (starts.known 0 (k, v) (omega arith))
    (inl (starts.pending 0 (k, v) (omega arith)))
    (first_free setup s k v pairs starts) (omega (arith, starts.room)))
    (starts_after setup s k v pairs starts)

-- a pending split runs the next attempt alone
pub pending_started : (s : State) (k v : ℕ) → split_at s k ≡ Pending →
    split_started s k v ≡ record (with_start s (works.Split k) v)
    { splits = updated (λ _. Running (next_on s v) None) s.splits k }
pending_started s k v pending = grind (arith, updated-agree)
