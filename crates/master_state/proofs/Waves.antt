-- A wave keeps a state tidy: a best assignment's pairs are starts.
use Rattle.std.proofs.Common.{◌≡◌, ◌≢◌, ℕ, zero, suc, ◌+◌, ◌<◌, ◌≤◌, ◌==◌, List, [], ◌∷◌, length, map, cond}
use Rattle.std.proofs.Common.{true, false, Option, refl, sym, ap, ◌∙◌, arith, AllPairs}
use Rattle.std.specs.Prelude.{slice_index_or, zip}
use Rattle.std.proofs.lemmas.Bool.{false≢true, eq-eqb, cases_lt}
use Rattle.std.proofs.lemmas.List.{get_or_past}
use Rattle.std.proofs.lemmas.List.Kept.{AllPairs-cons}
use Rattle.std.proofs.lemmas.List.Sums.{sum_by-cons, get_or-le-sum_by}
use Rattle.wave_problem.specs.declared.lines.WorkerLine.{WorkerLine}
use Rattle.wave_problem.specs.Wave.{Split}
use Rattle.wave_problem.specs.Wave as wave
use Rattle.wave_problem.specs.Assignment.{IsAssignment, times_started, pairs_of}
use Rattle.worker_table.specs.Workers.{worker_at, taken_slots}
use Rattle.master_state.specs.declared.states.SplitState.{SplitState}
use Rattle.master_state.specs.declared.states.SplitState.TheVariants.{Pending, Running, Done}
use Rattle.master_state.specs.States.{Setup, State}
use Rattle.master_state.specs.Tests.{is_pending}
use Rattle.master_state.specs.Refusals.{has_no_room}
use Rattle.master_state.specs.Changes.{after_wave, split_started}
use Rattle.master_state.specs.Steps.{IsAhead, IsWave, worker_line, split_line, problem_of}
use Rattle.master_state.specs.Tidy.{IsTidy}
use Rattle.master_state.proofs.Ahead.{heads_assigned}
use Rattle.master_state.proofs.Lists.{at-map}
use Rattle.master_state.proofs.Slots.{nobody}
use Rattle.master_state.proofs.Reasons.{attempts_left}
use Rattle.master_state.proofs.Starting.{AreStarts, all_started, tidy_all_started}
use Rattle.master_state.proofs.Tidying.{tidy_counted}

-- the splits of a wave, from those of the cluster, their states and their holders
abbrev pub lines_of : List Split → List SplitState → List (List ℕ) → List Split
lines_of splits states lists = map (λ line. split_line line.0.0 line.0.1 line.1)
    (zip (zip splits states) lists)

-- a split past the last is not pending
abbrev pub no_split : Split
no_split = record { bytes = 0; pending = false; holders = [] }

-- a split that a wave sees pending is one, and is pending
pub pending_line : (splits : List Split) (states : List SplitState) (lists : List (List ℕ)) (k : ℕ) →
    (slice_index_or (lines_of splits states lists) k no_split).pending ≡ true →
    (k < length states) × (is_pending (slice_index_or states k Pending) ≡ true)
pending_line [] states lists k e = absurd (false≢true e)
pending_line (split ∷ splits) [] lists k e = absurd (false≢true e)
pending_line (split ∷ splits) (state ∷ states) [] k e = absurd (false≢true e)
pending_line (split ∷ splits) (state ∷ states) (holders ∷ lists) zero e = (omega arith, e)
pending_line (split ∷ splits) (state ∷ states) (holders ∷ lists) (suc k) e =
    grind (arith, pending_line splits states lists k e)

pub pending_is : (split : SplitState) → is_pending split ≡ true → split ≡ Pending
pending_is Pending e = refl
pending_is (Running a other) e = absurd (false≢true e)
pending_is (Done a) e = absurd (false≢true e)

-- a worker as a wave sees it
pub worker_of_wave : (setup : Setup) (s : State) (w : ℕ) →
    wave.worker_at (problem_of setup s) w ≡ worker_line (worker_at s.workers w)
worker_of_wave setup s w = at-map worker_line s.workers.each w nobody

-- where no split stands twice, all pairs have splits of their own
pub once_pairs : (pairs : List (ℕ × ℕ)) → ((split : ℕ) → times_started pairs split ≤ 1) →
    AllPairs (λ one other. one.0 ≢ other.0) pairs
once_pairs [] once = λ i j d below l. absurd (omega (arith, l))
once_pairs (pair ∷ pairs) once =
    AllPairs-cons (λ one other. one.0 ≢ other.0) pair pairs
    (λ k d l same.
    let split = (slice_index_or pairs k d).0 in
    let count : ℕ × ℕ → ℕ = λ other. cond (other.0 == split) 1 0 in
    let first : count pair ≡ 1 = ap (λ b. let n : ℕ = cond b 1 0 in n) (eq-eqb pair.0 split same) in
    let later : count (slice_index_or pairs k d) ≡ 1 = ap (λ b. let n : ℕ = cond b 1 0 in n)
    (eq-eqb split split refl) in
    omega (
      arith,
      once split,
      sum_by-cons count pair pairs,
      get_or-le-sum_by count pairs k d l,
      first,
      later,
    ))
    (once_pairs pairs
    (λ split. omega (arith, once split, sum_by-cons (λ other. cond (other.0 == split) 1 0) pair pairs)))

-- no worker has more slots taken than it has
pub within_slots : (setup : Setup) (s : State) (w : ℕ) → IsTidy setup s →
    taken_slots s.workers w ≤ (worker_at s.workers w).slots
within_slots setup s w tidy = grind (arith, cases_lt, nobody, get_or_past)

-- the pairs of an assignment may start together
pub are_starts : (setup : Setup) (s : State) (pairs : List (ℕ × ℕ)) → IsTidy setup s →
    IsAssignment (problem_of setup s) pairs →
    length s.starts + length pairs ≤ setup.limits.attempts → AreStarts setup s pairs
are_starts setup s pairs tidy assigned room = record {
  pending = λ k d l. pending_is _ (pending_line setup.cluster.splits s.splits s.holders _
      (assigned.admissible k d l).pending).1;
  known = λ k d l. (pending_line setup.cluster.splits s.splits s.holders _
      (assigned.admissible k d l).pending).0;
  once = once_pairs pairs assigned.once;
  live = λ k d l. sym (ap (λ (line : WorkerLine). line.live) (worker_of_wave setup s _))
      ∙ (assigned.admissible k d l).live;
  free = λ w. omega (
    arith,
    ap (λ (line : WorkerLine). line.free) (worker_of_wave setup s w),
    assigned.within_free w,
    within_slots setup s w tidy,
  );
  room = room;
}

pub events_all_started : (s : State) (pairs : List (ℕ × ℕ)) → (all_started s pairs).events ≡ s.events
events_all_started s [] = refl
events_all_started s ((k, v) ∷ pairs) = events_all_started (split_started s k v) pairs

-- starts that are an assignment of the state, and for which there is room, keep it tidy
tidy_assigned : (setup : Setup) (s : State) (pairs : List (ℕ × ℕ)) → IsTidy setup s →
    IsAssignment (problem_of setup s) pairs → has_no_room setup s (length pairs) ≡ false →
    IsTidy setup (after_wave s pairs)
tidy_assigned setup s pairs tidy assigned some =
    let room = attempts_left setup s (length pairs) some in
    tidy_counted setup (all_started s pairs)
    (tidy_all_started setup s pairs tidy (are_starts setup s pairs tidy assigned room.1))
    (omega (arith, events_all_started s pairs, room.0))

pub tidy_wave : (setup : Setup) (s : State) (first count cost : ℕ) (plan : List (Option ℕ)) (new : State) →
    IsTidy setup s →
    IsWave setup s first count cost plan new → IsTidy setup new
tidy_wave setup s first count cost plan new tidy waved =
    rw waved.leads (tidy_assigned setup s (pairs_of plan) tidy waved.best.assignment waved.room)

pub tidy_ahead : (setup : Setup) (s : State) (first count cost : ℕ) (asked : List ℕ)
    (plan starts : List (Option ℕ)) (new : State) → IsTidy setup s →
    IsAhead setup s first count cost asked plan starts new → IsTidy setup new
tidy_ahead setup s first count cost asked plan starts new tidy ahead =
    rw ahead.leads (tidy_assigned setup s (pairs_of starts) tidy
    (heads_assigned (problem_of setup s) asked plan starts ahead.priced.0 ahead.priced.1
    ahead.heads) ahead.room)
