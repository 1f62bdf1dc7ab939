-- Which workers an engine that is near may have other lines of.
use Rattle.std.proofs.Common.{◌≡◌, ℕ, suc, ◌+◌, ◌⊎◌, inl, inr, List, [], ◌∷◌, All, refl, sym, ap}
use Rattle.std.proofs.Common.{◌∙◌, subst, arith, Bool, true, false}
use Rattle.std.specs.Prelude.{◌≢◌, if◌then◌else◌, fold, map, min, nat_lt, slice_index}
use Rattle.std.specs.List.{AllByRecursion}
use Rattle.std.proofs.lemmas.Bool.{cases_eq}
use Prim.Native.Nat.{zero}
use Rattle.wave_problem.specs.declared.lines.WorkerLine.{WorkerLine}
use Rattle.wave_problem.specs.Wave.{worker_at, worker_in, Wave}
use Rattle.node_ids.specs.Updates.{updated}
use Rattle.worker_table.specs.declared.Worker.{Worker}
use Rattle.worker_table.specs.Workers.{Workers, heard, heard_from, with_slot_given}
use Rattle.master_state.specs.declared.states.Attempt.{Attempt}
use Rattle.master_state.specs.States.{State}
use Rattle.master_state.specs.Changes.{died, split_started}
use Rattle.master_state.specs.Jobs.{Job}
use Rattle.master_state.specs.Steps.{problem_of, worker_line}
use Rattle.master_state.proofs.Sweeping.{heard_state}
use Rattle.master_tables.specs.Slots.{with_slots_given}
use Rattle.master_core.specs.declared.attempts.End.{End}
use Rattle.master_core.specs.declared.attempts.End.TheVariants.{Failed, Withdrawn}
use Rattle.master_core.specs.Attempts.{freed_by}
use Rattle.master_core.specs.declared.kept.Kept.{Kept}
use Rattle.master_core.specs.declared.kept.Kept.TheVariants.{None, Near, Far}
use Rattle.master_core.specs.declared.touched.Touched.{Touched}
use Rattle.master_core.specs.declared.master.Master.TheInside.{Inside}
use Rattle.master_core.specs.Inside.{job_of, setup_of, state_of}
use Rattle.master_core.specs.Near.{HasLines, IsLined, IsWorkerTouched, StaysTouched}

-- the line of a worker of these
abbrev line_in : List Worker → ℕ → WorkerLine
line_in each w = worker_in (map worker_line each) w

-- where each worker is touched or keeps its line
lined_still : (kept : Kept) (old new : Touched) (before after : List Worker) → StaysTouched old new →
    ((w : ℕ) → IsWorkerTouched new w ⊎ (line_in after w ≡ line_in before w)) →
    IsLined kept old (map worker_line before) → IsLined kept new (map worker_line after)
lined_still None old new before after stays same lined = tt
lined_still (Near engine) old new before after stays same lined = λ w. elim (lined w) [
  | inl was ↦ inl (stays.workers w was)
  | inr is ↦ elim (same w) [
    | inl touched ↦ inl touched
    | inr kept ↦ inr (is ∙ sym kept)
  ]
]
lined_still (Far engine) old new before after stays same lined = tt

-- the other workers keep their lines
line_other : (change : Worker → Worker) (each : List Worker) (n k : ℕ) → k ≢ n →
    line_in (updated change each n) k ≡ line_in each k
line_other change [] n k other = refl
line_other change (e ∷ each) zero zero other = absurd (other refl)
line_other change (e ∷ each) zero (suc k) other = refl
line_other change (e ∷ each) (suc n) zero other = refl
line_other change (e ∷ each) (suc n) (suc k) other = line_other change each n k (λ is. other (ap suc is))

line_after : (touched : Touched) (change : Worker → Worker) (each : List Worker) (n k : ℕ) →
    IsWorkerTouched touched n →
    IsWorkerTouched touched k ⊎ (line_in (updated change each n) k ≡ line_in each k)
line_after touched change each n k here = elim (cases_eq k n) [
  | inl is ↦ inl (subst (λ (w : ℕ). IsWorkerTouched touched w) (sym is) here)
  | inr other ↦ inr (line_other change each n k other)
]

-- a worker that changes is touched
pub lined_updated : (kept : Kept) (old new : Touched) (change : Worker → Worker) (each : List Worker) (n : ℕ) →
    IsWorkerTouched new n → StaysTouched old new →
    IsLined kept old (map worker_line each) → IsLined kept new (map worker_line (updated change each n))
lined_updated kept old new change each n here stays lined =
    lined_still kept old new each (updated change each n) stays
    (λ k. line_after new change each n k here) lined

-- and so is a worker that gives a slot back, whether it is barred then or not
pub lined_freed : (end : End) (kept : Kept) (old new : Touched) (t : Workers) (split w : ℕ) →
    IsWorkerTouched new w → StaysTouched old new → IsLined kept old (map worker_line t.each) →
    IsLined kept new (map worker_line (freed_by end t split w).each)
lined_freed Failed kept old new t split w here stays lined =
    lined_updated kept old new _ t.each w here stays lined
lined_freed Withdrawn kept old new t split w here stays lined =
    lined_updated kept old new _ t.each w here stays lined

-- two changes, one after the other: each worker is touched or keeps its line
line_then : (touched : Touched) (one two three : WorkerLine) (k : ℕ) →
    IsWorkerTouched touched k ⊎ (two ≡ one) → IsWorkerTouched touched k ⊎ (three ≡ two) →
    IsWorkerTouched touched k ⊎ (three ≡ one)
line_then touched one two three k (inl here) later = inl here
line_then touched one two three k (inr same) (inl here) = inl here
line_then touched one two three k (inr same) (inr kept) = inr (kept ∙ same)

given_touched : (touched : Touched) (t : Workers) (attempts : List Attempt) (k : ℕ) →
    AllByRecursion (λ attempt. IsWorkerTouched touched attempt.worker) attempts →
    IsWorkerTouched touched k ⊎ (line_in (with_slots_given t attempts).each k ≡ line_in t.each k)
given_touched touched t [] k all = inr refl
given_touched touched t (attempt ∷ attempts) k all =
    line_then touched _ _ _ k (line_after touched _ t.each attempt.worker k all.0)
    (given_touched touched (with_slot_given t attempt.worker) attempts k all.1)

-- where the worker of each attempt is touched that gives its slot back
pub lined_given : (kept : Kept) (old new : Touched) (t : Workers) (attempts : List Attempt) →
    AllByRecursion (λ attempt. IsWorkerTouched new attempt.worker) attempts → StaysTouched old new →
    IsLined kept old (map worker_line t.each) →
    IsLined kept new (map worker_line (with_slots_given t attempts).each)
lined_given kept old new t attempts all stays lined =
    lined_still kept old new t.each (with_slots_given t attempts).each stays
    (λ k. given_touched new t attempts k all) lined

-- the splits of these pairs have started
abbrev started_all : State → List (ℕ × ℕ) → State
started_all s pairs = fold (λ now pair. split_started now pair.0 pair.1) s pairs

starts_touched : (touched : Touched) (s : State) (pairs : List (ℕ × ℕ)) (k : ℕ) →
    All (λ pair. IsWorkerTouched touched pair.1) pairs →
    IsWorkerTouched touched k ⊎ (line_in (started_all s pairs).workers.each k ≡ line_in s.workers.each k)
starts_touched touched s [] k all = inr refl
starts_touched touched s (pair ∷ pairs) k all =
    line_then touched _ _ _ k (line_after touched _ s.workers.each pair.1 k (all 0 pair (omega arith)))
    (starts_touched touched (split_started s pair.0 pair.1) pairs k (λ i d l. all (suc i) d (omega arith)))

-- where each worker is touched on which a split starts
pub lined_started : (kept : Kept) (old new : Touched) (s : State) {next : State} (pairs : List (ℕ × ℕ)) →
    started_all s pairs ≡ next → All (λ pair. IsWorkerTouched new pair.1) pairs → StaysTouched old new →
    IsLined kept old (map worker_line s.workers.each) → IsLined kept new (map worker_line next.workers.each)
lined_started kept old new s pairs is all stays lined =
    subst (λ (x : State). IsLined kept new (map worker_line x.workers.each)) is
    (lined_still kept old new s.workers.each (started_all s pairs).workers.each stays
    (λ k. starts_touched new s pairs k all) lined)

-- a sweep alone changes no line
line_heard : (limit : ℕ) (worker : Worker) (count : ℕ) →
    worker_line (heard limit worker count) ≡ worker_line worker
line_heard limit worker count = by_life worker.live (nat_lt worker.beat count)
  where
    by_life : (live later : Bool) →
        worker_line (if live
        then (if later
        then record worker { beat = count; silence = 0 }
        else record worker { silence = min limit (worker.silence + 1) })
        else worker) ≡ worker_line worker
    by_life true true = refl
    by_life true false = refl
    by_life false later = refl

lines_heard : (n limit : ℕ) (each : List Worker) (counts : List ℕ) →
    map worker_line (heard_from n limit each counts) ≡ map worker_line each
lines_heard n limit [] counts = refl
lines_heard n limit (worker ∷ each) counts =
    ap (λ (line : WorkerLine). line ∷ map worker_line (heard_from (n + 1) limit each counts))
    (line_heard limit worker (slice_index counts n))
    ∙ ap (λ (lines : List WorkerLine). worker_line worker ∷ lines) (lines_heard (n + 1) limit each counts)

-- so where nobody dies in it, no line changes
pub lined_swept : (s : State) (counts : List ℕ) (old new : Kept) (touched : Touched) (dead : List ℕ)
    (next : State) →
    ((touched : Touched) (before after : List WorkerLine) → IsLined old touched before →
    (dead ≡ [] → after ≡ before) → IsLined new touched after) →
    IsLined old touched (map worker_line s.workers.each) → fold died (heard_state s counts) dead ≡ next →
    IsLined new touched (map worker_line next.workers.each)
lined_swept s counts old new touched dead next far lined is =
    far touched (map worker_line s.workers.each) (map worker_line next.workers.each) lined
    (λ none. sym (ap (λ (x : State). map worker_line x.workers.each) is)
    ∙ ap (λ those. map worker_line (fold died (heard_state s counts) those).workers.each) none
    ∙ lines_heard 0 s.workers.limit s.workers.each counts)

-- the wave of the present state has all lines, whatever was touched
pub present_lined : (m : Inside) {j : Job} (wave : Wave) (touched : Touched) → job_of m ≡ j →
    wave ≡ problem_of j.setup j.state → HasLines wave touched (map worker_line m.workers.each)
present_lined m wave touched is made = λ w.
    let here : wave ≡ problem_of (setup_of m) (state_of m) =
    made ∙ ap (λ (i : Job). problem_of i.setup i.state) (sym is) in
    inr (ap (λ (x : Wave). worker_at x w) here)
