-- The table of workers after slots are taken or given, and after deaths, returns and sweeps.
use Rattle.std.proofs.Common.{◌≡◌, ◌≢◌, ℕ, zero, suc, ◌+◌, ◌-◌, ◌<◌, ◌==◌, List, [], ◌∷◌, length, map, cond}
use Rattle.std.proofs.Common.{true, false, refl, ap, ◌∙◌, arith, All}
use Rattle.std.specs.Prelude.{fold, count_by, slice_index, slice_index_or, nat_lt}
use Rattle.std.specs.List.{enumerate_from}
use Rattle.std.proofs.lemmas.Bool.{eq-eqb, ne_eqb, cases_eq, cond_both}
use Rattle.std.proofs.Math.Nat.{min-le_left}
use Rattle.std.proofs.lemmas.List.Elements.{All-nil, All-cons}
use Rattle.std.proofs.lemmas.List.Sums.{sum_by-cons}
use Rattle.worker_table.specs.declared.Worker.{Worker}
use Rattle.worker_table.specs.Workers.{Workers, IsWithin, worker_at, is_live, taken_slots, with_worker}
use Rattle.worker_table.specs.Workers.{with_slot_taken, with_slot_given, with_death, with_return, heard}
use Rattle.worker_table.specs.Workers.{swept}
use Rattle.master_state.specs.declared.states.Attempt.{Attempt}
use Rattle.master_state.specs.States.{Setup}
use Rattle.master_state.specs.Tests.{is_on}
use Rattle.master_state.proofs.Lists.{at-updated_other, at-updated_same, at-updated_kept, same-updated}
use Rattle.master_state.proofs.Lists.{map-updated_same, All-updated, inside_of}

-- what stands past the last worker
abbrev pub nobody : Worker
nobody = record { live = false; slots = 0; taken = 0; beat = 0; silence = 0 }

-- the table has the cluster's workers, each within its bounds
pub record IsFit (setup : Setup) (t : Workers) : Type 0 where
  pub slots : map (λ worker. worker.slots) t.each ≡ setup.cluster.slots
  pub limit : t.limit ≡ setup.cluster.silence
  pub bars : length t.barred.rows ≡ length setup.cluster.splits
  pub within : All (IsWithin t.limit) t.each

-- a change of one worker that keeps its slots and its bounds
pub fit_worker : (setup : Setup) (t : Workers) (change : Worker → Worker) (w : ℕ) → IsFit setup t →
    ((worker : Worker) → (change worker).slots ≡ worker.slots) →
    (IsWithin t.limit (worker_at t w) → IsWithin t.limit (change (worker_at t w))) →
    IsFit setup (with_worker change t w)
fit_worker setup t change w fit slots bounds = record {
  slots = map-updated_same (λ worker. worker.slots) change t.each w slots ∙ fit.slots;
  limit = fit.limit;
  bars = fit.bars;
  within = All-updated (IsWithin t.limit) change t.each w nobody fit.within bounds;
}

pub fit_given : (setup : Setup) (t : Workers) (w : ℕ) → IsFit setup t → IsFit setup (with_slot_given t w)
fit_given setup t w fit =
    fit_worker setup t _ w fit (λ worker. refl)
    (λ old. record { slots = old.slots; taken = omega (arith, old.taken); silence = old.silence })

pub fit_taken : (setup : Setup) (t : Workers) (w : ℕ) → IsFit setup t →
    taken_slots t w < (worker_at t w).slots →
    IsFit setup (with_slot_taken t w)
fit_taken setup t w fit free =
    fit_worker setup t _ w fit (λ worker. refl)
    (λ old. record { slots = old.slots; taken = omega (arith, free); silence = old.silence })

pub fit_death : (setup : Setup) (t : Workers) (w : ℕ) → IsFit setup t → IsFit setup (with_death t w)
fit_death setup t w fit =
    fit_worker setup t _ w fit (λ worker. refl)
    (λ old. record { slots = old.slots; taken = omega arith; silence = old.silence })

pub fit_return : (setup : Setup) (t : Workers) (w : ℕ) → IsFit setup t → IsFit setup (with_return t w)
fit_return setup t w fit =
    fit_worker setup t _ w fit (λ worker. refl)
    (λ old. record { slots = old.slots; taken = old.taken; silence = omega arith })

-- the table after the slots of these attempts are given back
abbrev pub all_given : Workers → List Attempt → Workers
all_given t gone = fold (λ table attempt. with_slot_given table attempt.worker) t gone

pub fit_all_given : (setup : Setup) (t : Workers) (gone : List Attempt) → IsFit setup t →
    IsFit setup (all_given t gone)
fit_all_given setup t [] fit = fit
fit_all_given setup t (attempt ∷ gone) fit =
    fit_all_given setup (with_slot_given t attempt.worker) gone (fit_given setup t attempt.worker fit)

pub taken_given : (t : Workers) (v w : ℕ) → taken_slots (with_slot_given t v) w ≡ taken_slots t w - cond
    (v == w) 1 0
taken_given t v w = grind (arith, cases_eq, eq-eqb, at-updated_kept, ne_eqb, at-updated_other)

pub taken_all_given : (t : Workers) (gone : List Attempt) (w : ℕ) →
    taken_slots (all_given t gone) w ≡ taken_slots t w - count_by (is_on w) gone
taken_all_given t [] w = omega arith
taken_all_given t (attempt ∷ gone) w =
    search (arith, taken_all_given (with_slot_given t attempt.worker) gone w, sum_by-cons, taken_given)

pub live_given : (t : Workers) (v w : ℕ) → is_live (with_slot_given t v) w ≡ is_live t w
live_given t v w = same-updated (λ (worker : Worker). worker.live) _ t.each v w nobody (λ worker. refl)

pub live_all_given : (t : Workers) (gone : List Attempt) (w : ℕ) → is_live (all_given t gone) w ≡ is_live t w
live_all_given t [] w = refl
live_all_given t (attempt ∷ gone) w =
    live_all_given (with_slot_given t attempt.worker) gone w ∙ live_given t attempt.worker w

-- a live worker is one of the table
pub live-inside : (t : Workers) (w : ℕ) → is_live t w ≡ true → w < length t.each
live-inside t w live = inside_of (λ worker. worker.live) t.each w nobody refl live

pub live_taken : (t : Workers) (v w : ℕ) → is_live (with_slot_taken t v) w ≡ is_live t w
live_taken t v w = same-updated (λ (worker : Worker). worker.live) _ t.each v w nobody (λ worker. refl)

pub slots_taken : (t : Workers) (v w : ℕ) → (worker_at (with_slot_taken t v) w).slots ≡ (worker_at t w).slots
slots_taken t v w = same-updated (λ (worker : Worker). worker.slots) _ t.each v w nobody (λ worker. refl)

pub taken_taken : (t : Workers) (v w : ℕ) → v < length t.each →
    taken_slots (with_slot_taken t v) w ≡ taken_slots t w + cond (v == w) 1 0
taken_taken t v w inside = grind (arith, cases_eq, eq-eqb, at-updated_same, ne_eqb, at-updated_other)

-- the dead worker has no slot taken, the others as many as before
pub taken_death : (t : Workers) (v w : ℕ) → taken_slots (with_death t v) w ≡ cond (v == w) 0 (taken_slots t w)
taken_death t v w = grind (arith, cases_eq, eq-eqb, at-updated_kept, ne_eqb, at-updated_other)

pub live_death : (t : Workers) (v w : ℕ) → w ≢ v → is_live (with_death t v) w ≡ is_live t w
live_death t v w other = ap (λ (worker : Worker). worker.live) (at-updated_other _ t.each v w nobody other)

-- one that returned lives, and who lived lives still
pub live_return : (t : Workers) (w : ℕ) → w < length t.each → is_live (with_return t w) w ≡ true
live_return t w inside = ap (λ (worker : Worker). worker.live) (at-updated_same _ t.each w nobody inside)

pub live_return_other : (t : Workers) (v w : ℕ) → is_live t w ≡ true → is_live (with_return t v) w ≡ true
live_return_other t v w live = grind (arith, cases_eq, live_return, live-inside, at-updated_other)

pub taken_return : (t : Workers) (v w : ℕ) → taken_slots (with_return t v) w ≡ taken_slots t w
taken_return t v w = same-updated (λ (worker : Worker). worker.taken) _ t.each v w nobody (λ worker. refl)

-- a sweep changes beats and silences alone
heard_kept : {Y : Type 0} (f : Worker → Y) (limit : ℕ) (worker : Worker) (count : ℕ) →
    ((beat silence : ℕ) → f (record worker { beat = beat; silence = silence }) ≡ f worker) →
    f (heard limit worker count) ≡ f worker
heard_kept f limit worker count kept = grind arith

-- what each worker has heard, the first one having the number n
abbrev heard_from : ℕ → ℕ → List ℕ → List Worker → List Worker
heard_from n limit counts each = map (λ place. heard limit place.1 (slice_index counts place.0))
    (enumerate_from n each)

abbrev IsKeptBySweeps : {Y : Type 0} → (Worker → Y) → Type 0
IsKeptBySweeps f =
    (worker : Worker) (beat silence : ℕ) → f (record worker { beat = beat; silence = silence }) ≡ f worker

map-heard : {Y : Type 0} (f : Worker → Y) (n limit : ℕ) (counts : List ℕ) (each : List Worker) →
    IsKeptBySweeps f →
    map f (heard_from n limit counts each) ≡ map f each
map-heard f n limit counts [] kept = refl
map-heard f n limit counts (worker ∷ each) kept = grind (arith, map-heard f (n + 1) limit counts each kept)

at-heard : {Y : Type 0} (f : Worker → Y) (n limit : ℕ) (counts : List ℕ) (each : List Worker) (k : ℕ) →
    IsKeptBySweeps f →
    f (slice_index_or (heard_from n limit counts each) k nobody) ≡ f (slice_index_or each k nobody)
at-heard f n limit counts [] k kept = refl
at-heard f n limit counts (worker ∷ each) zero kept = heard_kept f limit worker (slice_index counts n)
    (kept worker)
at-heard f n limit counts (worker ∷ each) (suc k) kept = at-heard f (n + 1) limit counts each k kept

within-heard : (n limit : ℕ) (counts : List ℕ) (each : List Worker) → All (IsWithin limit) each →
    All (IsWithin limit) (heard_from n limit counts each)
within-heard n limit counts [] all = All-nil (IsWithin limit)
within-heard n limit counts (worker ∷ each) all =
    let old = all 0 worker (omega arith) in
    All-cons (IsWithin limit) (heard limit worker (slice_index counts n))
    (heard_from (n + 1) limit counts each)
    (cond_both worker.live _ worker (IsWithin limit)
    (λ _. cond_both (nat_lt worker.beat (slice_index counts n)) _ _ (IsWithin limit)
    (λ _. record { slots = old.slots; taken = old.taken; silence = omega arith })
    (λ _. record { slots = old.slots; taken = old.taken; silence = min-le_left limit (worker.silence + 1) }))
    (λ _. old))
    (within-heard (n + 1) limit counts each (λ k d l. all (suc k) d (omega (arith, l))))

pub fit_swept : (setup : Setup) (t : Workers) (counts : List ℕ) → IsFit setup t → IsFit setup (swept t counts)
fit_swept setup t counts fit = grind (arith, map-heard, within-heard)

pub live_swept : (t : Workers) (counts : List ℕ) (w : ℕ) → is_live (swept t counts) w ≡ is_live t w
live_swept t counts w =
    at-heard (λ worker. worker.live) 0 t.limit counts t.each w (λ worker beat silence. refl)

pub taken_swept : (t : Workers) (counts : List ℕ) (w : ℕ) → taken_slots (swept t counts) w ≡ taken_slots t w
taken_swept t counts w =
    at-heard (λ worker. worker.taken) 0 t.limit counts t.each w (λ worker beat silence. refl)
