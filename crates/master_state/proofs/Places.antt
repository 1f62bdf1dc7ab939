-- Where an attempt runs: the starts tell it.
use Rattle.std.proofs.Common.{◌≡◌, ◌≢◌, ℕ, ◌<◌, ◌||◌, List, length, map, Bool, true, false, not, Option, Some}
use Rattle.std.proofs.Common.{None, refl, sym, ap, ◌∙◌, All, subst}
use Rattle.std.specs.Prelude.{flat_map, is_some}
use Rattle.std.specs.List.{list_any}
use Rattle.std.specs.Option.{option_map_or}
use Rattle.std.proofs.lemmas.Bool.{false≢true, eqb-true, false_from_ne_true, not-false, or_parts}
use Rattle.std.proofs.lemmas.Option.{none-some}
use Rattle.std.proofs.lemmas.List.Elements.{All-append}
use Rattle.std.proofs.lemmas.List.Folds.{Any-from_list_any}
use Rattle.node_ids.specs.Updates.{updated}
use Rattle.master_state.specs.declared.states.Attempt.{Attempt}
use Rattle.master_state.specs.declared.states.Start.{Start}
use Rattle.master_state.specs.declared.states.Work.{Work}
use Rattle.master_state.specs.declared.states.Work.TheVariants as works
use Rattle.master_state.specs.declared.states.SplitState.{SplitState}
use Rattle.master_state.specs.declared.states.SplitState.TheVariants.{Pending, Running, Done}
use Rattle.master_state.specs.declared.states.PartState.{PartState}
use Rattle.master_state.specs.declared.states.PartState.TheVariants as part
use Rattle.master_state.specs.States.{Setup, State, start_of, worker_of}
use Rattle.master_state.specs.Tests.{is_numbered, attempts_of, part_attempts, all_running, runs, part_runs}
use Rattle.master_state.specs.Tests.{split_at, part_at, split_running, part_running}
use Rattle.master_state.specs.Refusals.{no_split_runs, no_part_runs}
use Rattle.master_state.specs.Changes.{without_attempts, part_without, done_by, part_done_by}
use Rattle.master_state.specs.Tidy.{IsTidy, IsToldAs}
use Rattle.master_state.proofs.Lists.{All-flat_map, map-updated, map-kept, any_alone, any_found, inside_of}
use Rattle.master_state.proofs.Lists.{none_pass, position_alone}

-- the start of this work on this worker
abbrev pub start_on : Work → ℕ → Start
start_on work w = record { work = work; worker = w }

-- the worker that the starts tell of an attempt
abbrev pub worker_in : Option Start → ℕ
worker_in start = option_map_or (λ (one : Start). one.worker) start 0

-- attempts of which one has the number a, each told as of this work
told_among : (s : State) (a : ℕ) (work : Work) (attempts : List Attempt) → All (IsToldAs s work) attempts →
    list_any (is_numbered a) attempts ≡ true → start_of s a ≡ Some (start_on work (worker_of s a))
told_among s a work attempts told any =
    let found = Any-from_list_any (is_numbered a) attempts any in
    let same : found.1.number ≡ a = eqb-true found.1.number a found.4 in
    let start : start_of s a ≡ Some (start_on work found.1.worker) =
    subst (λ n. start_of s n ≡ Some (start_on work found.1.worker)) same
    (subst (IsToldAs s work) found.3 (told found.0 found.1 found.2)) in
    start ∙ ap (λ w. Some (start_on work w)) (sym (ap worker_in start))

-- an attempt that a split or a part runs was started for it
pub told_split : (setup : Setup) (s : State) (a split : ℕ) → IsTidy setup s →
    runs a (split_at s split) ≡ true →
    start_of s a ≡ Some (start_on (works.Split split) (worker_of s a))
told_split setup s a split tidy run = told_among s a (works.Split split) (attempts_of (split_at s split))
    (tidy.told split) run

pub told_part : (setup : Setup) (s : State) (a r : ℕ) → IsTidy setup s → part_runs a (part_at s r) ≡ true →
    start_of s a ≡ Some (start_on (works.Part r) (worker_of s a))
told_part setup s a r tidy run = told_among s a (works.Part r) (part_attempts (part_at s r))
    (tidy.told_parts r) run

-- every attempt that runs is on the worker that the starts tell
abbrev pub IsPlaced : State → Attempt → Type 0
IsPlaced s attempt = worker_of s attempt.number ≡ attempt.worker

pub placed : (setup : Setup) (s : State) → IsTidy setup s → All (IsPlaced s) (all_running s)
placed setup s tidy =
    All-append (IsPlaced s) (flat_map attempts_of s.splits) (flat_map part_attempts s.parts)
    (All-flat_map (IsPlaced s) attempts_of s.splits Pending (λ k l i d m. ap worker_in (tidy.told k i d m)))
    (All-flat_map (IsPlaced s) part_attempts s.parts part.Pending
    (λ k l i d m. ap worker_in (tidy.told_parts k i d m)))

abbrev pub work_in : Option Start → Option Work
work_in None = None
work_in (Some start) = Some start.work

abbrev split_in : Option Work → Option ℕ
split_in (Some (works.Split split)) = Some split
split_in other = None

abbrev part_in : Option Work → Option ℕ
part_in (Some (works.Part r)) = Some r
part_in other = None

same_some : (a b : ℕ) → Some a ≡ Some b → a ≡ b
same_some a b e = ap (λ o. option_map_or (λ (n : ℕ). n) o 0) e

-- no attempt runs at two places
pub one_split : (s : State) (a j k v w : ℕ) → start_of s a ≡ Some (start_on (works.Split j) v) →
    start_of s a ≡ Some (start_on (works.Split k) w) → j ≡ k
one_split s a j k v w here there = same_some j k (ap (λ start. split_in (work_in start)) (sym here ∙ there))

pub one_part : (s : State) (a j k v w : ℕ) → start_of s a ≡ Some (start_on (works.Part j) v) →
    start_of s a ≡ Some (start_on (works.Part k) w) → j ≡ k
one_part s a j k v w here there = same_some j k (ap (λ start. part_in (work_in start)) (sym here ∙ there))

pub not_both : (s : State) (a split r v w : ℕ) → start_of s a ≡ Some (start_on (works.Split split) v) →
    start_of s a ≡ Some (start_on (works.Part r) w) → ⊥
not_both s a split r v w here there =
    false≢true (sym (ap (λ start. is_some (split_in (work_in start))) (sym here ∙ there)))

-- a split past the last runs nothing
pub split_inside : (s : State) (a k : ℕ) → runs a (split_at s k) ≡ true → k < length s.splits
split_inside s a k run = inside_of (runs a) s.splits k Pending refl run

pub part_inside : (s : State) (a r : ℕ) → part_runs a (part_at s r) ≡ true → r < length s.parts
part_inside s a r run = inside_of (part_runs a) s.parts r part.Pending refl run

-- no other split runs an attempt that was started for this one, and no part does; nor the other way round
pub runs_alone : (setup : Setup) (s : State) (a split w k : ℕ) → IsTidy setup s →
    start_of s a ≡ Some (start_on (works.Split split) w) → k ≢ split → runs a (split_at s k) ≡ false
runs_alone setup s a split w k tidy start other =
    false_from_ne_true (runs a (split_at s k))
    (λ run. other (one_split s a k split _ w (told_split setup s a k tidy run) start))

pub no_part_beside : (setup : Setup) (s : State) (a split w r : ℕ) → IsTidy setup s →
    start_of s a ≡ Some (start_on (works.Split split) w) → part_runs a (part_at s r) ≡ false
no_part_beside setup s a split w r tidy start =
    false_from_ne_true (part_runs a (part_at s r))
    (λ run. not_both s a split r w _ start (told_part setup s a r tidy run))

pub part_runs_alone : (setup : Setup) (s : State) (a r w k : ℕ) → IsTidy setup s →
    start_of s a ≡ Some (start_on (works.Part r) w) → k ≢ r → part_runs a (part_at s k) ≡ false
part_runs_alone setup s a r w k tidy start other =
    false_from_ne_true (part_runs a (part_at s k))
    (λ run. other (one_part s a k r _ w (told_part setup s a k tidy run) start))

pub no_split_beside : (setup : Setup) (s : State) (a r w k : ℕ) → IsTidy setup s →
    start_of s a ≡ Some (start_on (works.Part r) w) → runs a (split_at s k) ≡ false
no_split_beside setup s a r w k tidy start =
    false_from_ne_true (runs a (split_at s k))
    (λ run. not_both s a k r _ w (told_split setup s a k tidy run) start)

-- the split that runs an attempt is found, and so is the part
pub split_running_is : (setup : Setup) (s : State) (a split : ℕ) → IsTidy setup s →
    runs a (split_at s split) ≡ true →
    split_running s a ≡ split
split_running_is setup s a split tidy run =
    position_alone (runs a) s.splits split Pending (split_inside s a split run)
    (λ k. runs_alone setup s a split _ k tidy (told_split setup s a split tidy run)) run

pub part_running_is : (setup : Setup) (s : State) (a r : ℕ) → IsTidy setup s →
    part_runs a (part_at s r) ≡ true →
    part_running s a ≡ r
part_running_is setup s a r tidy run =
    position_alone (part_runs a) s.parts r part.Pending (part_inside s a r run)
    (λ k. part_runs_alone setup s a r _ k tidy (told_part setup s a r tidy run)) run

-- whether a split runs the attempt that was started for it, decides whether any does
pub no_split_is : (setup : Setup) (s : State) (a split w : ℕ) → IsTidy setup s →
    start_of s a ≡ Some (start_on (works.Split split) w) → no_split_runs s a ≡ not (runs a (split_at s split))
no_split_is setup s a split w tidy start =
    ap not (any_alone (runs a) s.splits split Pending refl (λ k. runs_alone setup s a split w k tidy start))

pub no_part_is : (setup : Setup) (s : State) (a r w : ℕ) → IsTidy setup s →
    start_of s a ≡ Some (start_on (works.Part r) w) → no_part_runs s a ≡ not (part_runs a (part_at s r))
no_part_is setup s a r w tidy start =
    ap not (any_alone (part_runs a) s.parts r part.Pending refl
    (λ k. part_runs_alone setup s a r w k tidy start))

-- no part runs an attempt of a split, no split one of a part, and nothing one that was never started
pub no_part_of_split : (setup : Setup) (s : State) (a split w : ℕ) → IsTidy setup s →
    start_of s a ≡ Some (start_on (works.Split split) w) → no_part_runs s a ≡ true
no_part_of_split setup s a split w tidy start =
    ap not (none_pass (part_runs a) s.parts part.Pending (λ r. no_part_beside setup s a split w r tidy start))

pub no_split_of_part : (setup : Setup) (s : State) (a r w : ℕ) → IsTidy setup s →
    start_of s a ≡ Some (start_on (works.Part r) w) → no_split_runs s a ≡ true
no_split_of_part setup s a r w tidy start =
    ap not (none_pass (runs a) s.splits Pending (λ k. no_split_beside setup s a r w k tidy start))

pub none_unstarted : (setup : Setup) (s : State) (a : ℕ) → IsTidy setup s → start_of s a ≡ None →
    (no_split_runs s a ≡ true) × (no_part_runs s a ≡ true)
none_unstarted setup s a tidy start = (
  ap not (none_pass (runs a) s.splits Pending (λ k. false_from_ne_true (runs a (split_at s k))
      (λ run. none-some _ (sym start ∙ told_split setup s a k tidy run)))),
  ap not (none_pass (part_runs a) s.parts part.Pending (λ r. false_from_ne_true (part_runs a (part_at s r))
      (λ run. none-some _ (sym start ∙ told_part setup s a r tidy run)))),
)

-- where a split runs the attempt, or a part, it is the one that was found
pub found_split : (s : State) (a : ℕ) → no_split_runs s a ≡ false →
    runs a (split_at s (split_running s a)) ≡ true
found_split s a some = any_found (runs a) s.splits Pending (not-false (list_any (runs a) s.splits) some)

pub found_part : (s : State) (a : ℕ) → no_part_runs s a ≡ false →
    part_runs a (part_at s (part_running s a)) ≡ true
found_part s a some = any_found (part_runs a) s.parts part.Pending
    (not-false (list_any (part_runs a) s.parts) some)

-- a split or part without such an attempt stays as it is
pub without_none : (test : Attempt → Bool) (split : SplitState) →
    list_any test (attempts_of split) ≡ false → without_attempts test split ≡ split
without_none test Pending none = refl
without_none test (Running attempt None) none = rw (or_parts (test attempt) false none).0 refl
without_none test (Running attempt (Some other)) none =
    let first = or_parts (test attempt) (test other || false) none in
    rw (first.0, (or_parts (test other) false first.1).0) refl
without_none test (Done attempt) none = refl

pub part_without_none : (test : Attempt → Bool) (state : PartState) →
    list_any test (part_attempts state) ≡ false → part_without test state ≡ state
part_without_none test part.Pending none = refl
part_without_none test (part.Running attempt) none = rw (or_parts (test attempt) false none).0 refl
part_without_none test part.Done none = refl

pub done_by_none : (a : ℕ) (split : SplitState) → runs a split ≡ false → done_by a split ≡ split
done_by_none a Pending none = refl
done_by_none a (Running attempt None) none = rw (or_parts (is_numbered a attempt) false none).0 refl
done_by_none a (Running attempt (Some other)) none =
    let first = or_parts (is_numbered a attempt) (is_numbered a other || false) none in
    rw (first.0, (or_parts (is_numbered a other) false first.1).0) refl
done_by_none a (Done attempt) none = refl

pub part_done_by_none : (a : ℕ) (state : PartState) → part_runs a state ≡ false → part_done_by a state ≡ state
part_done_by_none a part.Pending none = refl
part_done_by_none a (part.Running attempt) none = rw (or_parts (is_numbered a attempt) false none).0 refl
part_done_by_none a part.Done none = refl

-- the end of an attempt changes the split or the part that runs it, and no other
pub without_at : (setup : Setup) (s : State) (a split w : ℕ) → IsTidy setup s →
    start_of s a ≡ Some (start_on (works.Split split) w) →
    (map (without_attempts (is_numbered a)) s.splits ≡ updated (without_attempts (is_numbered a))
    s.splits split)
    × (map (part_without (is_numbered a)) s.parts ≡ s.parts)
without_at setup s a split w tidy start = (
  map-updated (without_attempts (is_numbered a)) s.splits split Pending
      (λ k other. without_none (is_numbered a) (split_at s k)
      (runs_alone setup s a split w k tidy start other)),
  map-kept (part_without (is_numbered a)) s.parts part.Pending
      (λ r. part_without_none (is_numbered a) (part_at s r) (no_part_beside setup s a split w r tidy start)),
)

pub part_without_at : (setup : Setup) (s : State) (a r w : ℕ) → IsTidy setup s →
    start_of s a ≡ Some (start_on (works.Part r) w) →
    (map (without_attempts (is_numbered a)) s.splits ≡ s.splits)
    × (map (part_without (is_numbered a)) s.parts ≡ updated (part_without (is_numbered a)) s.parts r)
part_without_at setup s a r w tidy start = (
  map-kept (without_attempts (is_numbered a)) s.splits Pending
      (λ k. without_none (is_numbered a) (split_at s k) (no_split_beside setup s a r w k tidy start)),
  map-updated (part_without (is_numbered a)) s.parts r part.Pending
      (λ k other. part_without_none (is_numbered a) (part_at s k)
      (part_runs_alone setup s a r w k tidy start other)),
)

pub done_at : (setup : Setup) (s : State) (a split w : ℕ) → IsTidy setup s →
    start_of s a ≡ Some (start_on (works.Split split) w) →
    map (done_by a) s.splits ≡ updated (done_by a) s.splits split
done_at setup s a split w tidy start =
    map-updated (done_by a) s.splits split Pending
    (λ k other. done_by_none a (split_at s k) (runs_alone setup s a split w k tidy start other))

pub part_done_at : (setup : Setup) (s : State) (a r w : ℕ) → IsTidy setup s →
    start_of s a ≡ Some (start_on (works.Part r) w) →
    map (part_done_by a) s.parts ≡ updated (part_done_by a) s.parts r
part_done_at setup s a r w tidy start =
    map-updated (part_done_by a) s.parts r part.Pending
    (λ k other. part_done_by_none a (part_at s k) (part_runs_alone setup s a r w k tidy start other))
