-- Workers that hear their counts one after another, and die where they were silent too long.
use Rattle.std.proofs.Common.{◌≡◌, ◌≢◌, ℕ, zero, suc, ◌+◌, ◌-◌, ◌<◌, ◌≤◌, ◌++◌, ◌&&◌, ◌==◌, List, [], ◌∷◌}
use Rattle.std.proofs.Common.{Bool, true, false}
use Rattle.std.proofs.Common.{ap, arith, drop, length, refl, take}
use Rattle.std.specs.Prelude.{filter, fold, slice_index}
use Rattle.std.specs.List.{range_with_len}
use Rattle.node_ids.specs.Updates.{updated}
use Rattle.node_ids.proofs.Members.{range_front}
use Rattle.worker_table.specs.declared.Worker.{Worker}
use Rattle.worker_table.specs.Workers.{Workers, heard, heard_from, is_silent, with_death}
use Rattle.master_state.proofs.Lists.{at-updated_other}
use Rattle.master_state.proofs.Slots.{nobody}

-- the worker at a place hears its count: those before it have heard, and those after it will
pub hear_next : (m limit : ℕ) (each : List Worker) (counts : List ℕ) (i : ℕ) → i < length each →
    take (suc i) (updated (λ worker. heard limit worker (slice_index counts m)) each i)
    ++ heard_from (m + 1) limit
    (drop (suc i) (updated (λ worker. heard limit worker (slice_index counts m)) each i)) counts
    ≡ take i each ++ heard_from m limit (drop i each) counts
hear_next m limit [] counts i inside = absurd (omega (arith, inside))
hear_next m limit (worker ∷ each) counts zero inside = refl
hear_next m limit (worker ∷ each) counts (suc i) inside =
    λ k. worker ∷ hear_next m limit each counts i (omega (arith, inside)) k

-- where each has heard, nobody is left
pub all_heard : (m limit : ℕ) (each : List Worker) (counts : List ℕ) (n : ℕ) → length each ≤ n →
    take n each ++ heard_from m limit (drop n each) counts ≡ each
all_heard m limit [] counts zero past = refl
all_heard m limit [] counts (suc n) past = refl
all_heard m limit (worker ∷ each) counts zero past = absurd (omega (arith, past))
all_heard m limit (worker ∷ each) counts (suc n) past =
    λ k. worker ∷ all_heard m limit each counts n (omega (arith, past)) k

-- a death leaves the others as silent as they were
pub silent_later : (t : Workers) (w v : ℕ) → v ≢ w → is_silent (with_death t w) v ≡ is_silent t v
silent_later t w v other =
    ap (λ (worker : Worker). worker.live && worker.silence == t.limit)
    (at-updated_other (λ (worker : Worker). record worker { live = false; taken = 0 }) t.each w v nobody
    other)

-- the next number passes, and its step comes before the others, or it does not
pub step_next : {S : Type 0} (step : S → ℕ → S) (s : S) (test : ℕ → Bool) (i n : ℕ) → i < n → test i ≡ true →
    fold step s (filter test (range_with_len i (n - i)))
    ≡ fold step (step s i) (filter test (range_with_len (i + 1) (n - (i + 1))))
step_next step s test i n inside here = rw (range_front i n inside, here) refl

pub step_past : {S : Type 0} (step : S → ℕ → S) (s : S) (test : ℕ → Bool) (i n : ℕ) → i < n → test i ≡ false →
    fold step s (filter test (range_with_len i (n - i)))
    ≡ fold step s (filter test (range_with_len (i + 1) (n - (i + 1))))
step_past step s test i n inside here = rw (range_front i n inside, here) refl
