-- The problem of a state, the step of each event, and the histories that the machine may have.
use Rattle.std.specs.Prelude.{ℕ, ◌≡◌, ◌+◌, ◌-◌, ◌<◌, false, List, [], ◌∷◌, length, map, max, min, zip, Option}
use Rattle.std.specs.Prelude.{None, Some}
use Rattle.word_map.specs.Runs.{MapView}
use Rattle.shuffle_reduce.specs.Merged.{PartView}
use Rattle.wave_problem.specs.declared.lines.WorkerLine.{WorkerLine}
use Rattle.wave_problem.specs.Wave.{Wave, Split, wave_from, worker_in}
use Rattle.wave_problem.specs.Assignment.{IsBest, load, pairs_of, start_of, total}
use Rattle.price_certificate.specs.Certificate.{Certifies, claim}
use Rattle.price_certificate.specs.PriceList.{PriceList}
use Rattle.worker_table.specs.declared.Worker.{Worker}
use Rattle.master_state.specs.declared.events.Event.{Event}
use Rattle.master_state.specs.declared.events.Event.TheVariants as events
use Rattle.master_state.specs.declared.states.SplitState.{SplitState}
use Rattle.master_state.specs.States.{Setup, State, opening, next_attempt}
use Rattle.master_state.specs.Tests.{is_pending, next_part, next_worker}
use Rattle.master_state.specs.Refusals.{Call, MapDone, MapFailed, Withdraw, Die, Join, Add, Lose, Sweep}
use Rattle.master_state.specs.Refusals.{ReduceStart, PartDone, PartFailed, Backup, IsKnown, refusal}
use Rattle.master_state.specs.Refusals.{has_no_room}
use Rattle.master_state.specs.Changes.{after, after_wave}

-- a worker, and a split with its state and its holders, as a wave sees them
abbrev pub worker_line : Worker → WorkerLine
worker_line worker = record { live = worker.live; free = worker.slots - worker.taken }

abbrev pub split_line : Split → SplitState → List ℕ → Split
split_line split state holders = record { bytes = split.bytes; pending = is_pending state; holders = holders }

-- what the next wave is planned from
abbrev pub problem_of : Setup → State → Wave
problem_of setup s =
    wave_from setup.cluster.tree
    (map worker_line s.workers.each)
    (map (λ line. split_line line.0.0 line.0.1 line.1) (zip (zip setup.cluster.splits s.splits) s.holders))
    s.workers.barred.rows

-- some prices certify the plan in this state
abbrev pub HasPrices : Setup → State → List (Option ℕ) → Type 0
HasPrices setup s plan = (prices : PriceList) × Certifies (claim (problem_of setup s) plan prices)

-- a wave makes the starts of ANY plan that is best in the old state, as some prices certify
pub record IsWave (setup : Setup) (old : State) (first count cost : ℕ) (plan : List (Option ℕ)) (new : State)
    : Type 0 where
  pub best : IsBest (problem_of setup old) (pairs_of plan)
  pub priced : HasPrices setup old plan
  pub room : has_no_room setup old (length (pairs_of plan)) ≡ false
  pub first_is : first ≡ next_attempt old
  pub count_is : count ≡ length (pairs_of plan)
  pub cost_is : cost ≡ total (problem_of setup old) (pairs_of plan)
  pub leads : new ≡ after_wave old (pairs_of plan)

-- ---- plans ahead

-- a line with so many places in place of its free slots, where these are fewer
abbrev pub line_with : ℕ → WorkerLine → WorkerLine
line_with n line = record { live = line.live; free = max n line.free }

-- the lines of workers, each with as many places as are asked for it, and at least its free slots
abbrev pub queue_lines : List ℕ → List WorkerLine → List WorkerLine
queue_lines asked [] = []
queue_lines [] (line ∷ lines) = line ∷ queue_lines [] lines
queue_lines (n ∷ asked) (line ∷ lines) =
    line_with n line ∷ queue_lines asked lines

-- the problem with these places in place of free slots
abbrev pub with_places : List ℕ → Wave → Wave
with_places asked wave = record wave { workers = queue_lines asked wave.workers }

-- of the splits that the plan gives each worker, the first ones, as many as the worker has free slots
pub record AreHeads (lines : List WorkerLine) (plan starts : List (Option ℕ)) : Type 0 where
  pub of_plan : (s w : ℕ) → start_of starts s ≡ Some w → start_of plan s ≡ Some w
  pub as_many : (w : ℕ) → load (pairs_of starts) w
      ≡ min (load (pairs_of plan) w) (worker_in lines w).free
  pub first : (s k w : ℕ) → start_of plan s ≡ Some w → start_of starts s ≡ None → start_of starts k ≡ Some w → k < s

-- the starts are the heads of ANY plan of all pending splits onto these places that is best there, as some prices
-- certify
pub record IsAhead (setup : Setup) (old : State) (first count cost : ℕ) (asked : List ℕ)
    (plan starts : List (Option ℕ)) (new : State) : Type 0 where
  pub best : IsBest (with_places asked (problem_of setup old)) (pairs_of plan)
  pub priced : (prices : PriceList) × Certifies (claim (with_places asked (problem_of setup old)) plan prices)
  pub heads : AreHeads (problem_of setup old).workers plan starts
  pub room : has_no_room setup old (length (pairs_of starts)) ≡ false
  pub first_is : first ≡ next_attempt old
  pub count_is : count ≡ length (pairs_of starts)
  pub cost_is : cost ≡ total (problem_of setup old) (pairs_of starts)
  pub leads : new ≡ after_wave old (pairs_of starts)

-- the call is one for this cluster, it is not refused, and its change is made
pub record IsChange (setup : Setup) (old : State) (call : Call) (new : State) : Type 0 where
  pub known : IsKnown setup call
  pub allowed : refusal setup old call ≡ None
  pub leads : new ≡ after old call

-- from old, the event leads to new
abbrev pub Step : Setup → State → Event → State → Type 0
Step setup old (events.Wave first count cost) new =
    (plan : List (Option ℕ)) × IsWave setup old first count cost plan new
Step setup old (events.Ahead first count cost) new =
    (asked : List ℕ) × (plan : List (Option ℕ)) × (starts : List (Option ℕ))
    × IsAhead setup old first count cost asked plan starts new
Step setup old (events.MapDone a) new = (result : MapView) × IsChange setup old (MapDone a result) new
Step setup old (events.MapFailed a) new = IsChange setup old (MapFailed a) new
Step setup old (events.Withdraw a) new = IsChange setup old (Withdraw a) new
Step setup old (events.Die w) new = IsChange setup old (Die w) new
Step setup old (events.Join w set) new = IsChange setup old (Join w set) new
Step setup old (events.Add split w) new = IsChange setup old (Add split w) new
Step setup old (events.Lose split w) new = IsChange setup old (Lose split w) new
Step setup old (events.Sweep place) new =
    (counts : List ℕ) × (place ≡ length old.sweeps + 1) × IsChange setup old (Sweep counts) new
Step setup old (events.ReduceStart a r w) new =
    (a ≡ next_attempt old) × (r ≡ next_part old) × (w ≡ next_worker old) × IsChange setup old ReduceStart new
Step setup old (events.PartDone a) new = (result : PartView) × IsChange setup old (PartDone a result) new
Step setup old (events.PartFailed a) new = IsChange setup old (PartFailed a) new
Step setup old (events.Backup a split w) new =
    (a ≡ next_attempt old) × IsChange setup old (Backup split w) new

-- the events lead from old to new, one step after another
abbrev pub Leads : Setup → State → List Event → State → Type 0
Leads setup old [] new = new ≡ old
Leads setup old (event ∷ events) new = (mid : State) × Step setup old event mid × Leads setup mid events new

-- the machine may have this history from its opening state on, and it leads to the state
abbrev pub IsLegal : Setup → List Event → State → Type 0
IsLegal setup history state = Leads setup (opening setup) history state
