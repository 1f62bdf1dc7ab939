-- The workers of a job: who lives, whose slots are taken, who is silent, and what is barred.
use Rattle.std.specs.Prelude.{ℕ, ◌+◌, ◌-◌, ◌≤◌, ◌&&◌, ◌==◌, Bool, true, false, nat_lt, min}
use Rattle.std.specs.Prelude.{if◌then◌else◌}
use Rattle.std.specs.Prelude.{List, All, filter, length, map, slice_index, slice_index_or}
use Rattle.std.specs.List.{enumerate_from, range_with_len}
use Rattle.node_ids.specs.Sets.{has_pair}
use Rattle.node_ids.specs.Updates.{updated}
use Rattle.worker_table.specs.Bars.{Bars, bars_with, no_bars}
use Rattle.worker_table.specs.declared.TheConstants.{MAX_WORKERS}
use Rattle.worker_table.specs.declared.Worker.{Worker}

pub record Workers : Type 0 where
  pub limit : ℕ  -- the silence at which a worker is dead
  pub each : List Worker
  pub barred : Bars

-- a live worker that nothing was heard of, with all its slots free
abbrev pub fresh : ℕ → Worker
fresh slots = record { live = true; slots = slots; taken = 0; beat = 0; silence = 0 }

-- all workers live, and none barred for any of so many splits, with room for so many bars
abbrev pub opening_workers : List ℕ → ℕ → ℕ → ℕ → Workers
opening_workers slots splits limit room = record {
  limit = limit;
  each = map fresh slots;
  barred = no_bars splits room;
}

-- the worker w; one past the last is dead and has no slots
abbrev pub worker_at : Workers → ℕ → Worker
worker_at t w = slice_index_or t.each w (record { live = false; slots = 0; taken = 0; beat = 0; silence = 0 })

abbrev pub is_live : Workers → ℕ → Bool
is_live t w = (worker_at t w).live

abbrev pub taken_slots : Workers → ℕ → ℕ
taken_slots t w = (worker_at t w).taken

abbrev pub free_slots : Workers → ℕ → ℕ
free_slots t w = (worker_at t w).slots - (worker_at t w).taken

abbrev pub has_free_slot : Worker → Bool
has_free_slot worker = worker.live && nat_lt worker.taken worker.slots

abbrev pub is_barred : Workers → ℕ → ℕ → Bool
is_barred t split w = has_pair t.barred.rows split w

-- what each worker of a table keeps
pub record IsWithin (limit : ℕ) (worker : Worker) : Type 0 where
  pub slots : worker.slots ≤ 255
  pub taken : worker.taken ≤ worker.slots
  pub silence : worker.silence ≤ limit

-- what every table keeps
pub record IsTable (t : Workers) : Type 0 where
  pub few : length t.each ≤ MAX_WORKERS
  pub limit : 1 ≤ t.limit
  pub within : All (IsWithin t.limit) t.each

-- the table in which the worker w became what change makes of it
abbrev pub with_worker : (Worker → Worker) → Workers → ℕ → Workers
with_worker change t w = record t { each = updated change t.each w }

abbrev pub with_slot_taken : Workers → ℕ → Workers
with_slot_taken t w = with_worker (λ worker. record worker { taken = worker.taken + 1 }) t w

abbrev pub with_slot_given : Workers → ℕ → Workers
with_slot_given t w = with_worker (λ worker. record worker { taken = worker.taken - 1 }) t w

-- dead, with all its slots free
abbrev pub with_death : Workers → ℕ → Workers
with_death t w = with_worker (λ worker. record worker { live = false; taken = 0 }) t w

-- live again, with its last beat
abbrev pub with_return : Workers → ℕ → Workers
with_return t w = with_worker (λ worker. record worker { live = true; silence = 0 }) t w

abbrev pub with_bar : Workers → ℕ → ℕ → Workers
with_bar t split w = record t { barred = bars_with t.barred split w }

-- a worker after a sweep that read this count of its beats; a dead one is passed over
abbrev pub heard : ℕ → Worker → ℕ → Worker
heard limit worker count =
    if worker.live
    then (if nat_lt worker.beat count
    then record worker { beat = count; silence = 0 }
    else record worker { silence = min limit (worker.silence + 1) })
    else worker

-- the worker w has heard this count of its beats
abbrev pub with_beats : Workers → ℕ → ℕ → Workers
with_beats t w count = with_worker (λ worker. heard t.limit worker count) t w

-- these workers, numbered from n on, when each has heard the count at its number
abbrev pub heard_from : ℕ → ℕ → List Worker → List ℕ → List Worker
heard_from n limit each counts =
    map (λ place. heard limit place.1 (slice_index counts place.0)) (enumerate_from n each)

-- each worker has heard the count at its number
abbrev pub swept : Workers → List ℕ → Workers
swept t counts = record t { each = heard_from 0 t.limit t.each counts }

-- the worker w lives and has been silent too long: it is in the answer of a sweep
abbrev pub is_silent : Workers → ℕ → Bool
is_silent t w = is_live t w && (worker_at t w).silence == t.limit

-- all who live and have been silent too long, by number
abbrev pub silent_in : Workers → List ℕ
silent_in t = filter (is_silent t) (range_with_len 0 (length t.each))
