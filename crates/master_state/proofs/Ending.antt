-- Results, failures, withdrawals and deaths keep a state tidy.
use Rattle.std.proofs.Common.{◌≡◌, ◌≢◌, ℕ, suc, ◌==◌, ◌||◌, List, [], ◌∷◌, ◌++◌, length, map, cond, Bool}
use Rattle.std.proofs.Common.{true, false, not, None, refl, sym, ap, ◌∙◌, arith, inl, inr, All}
use Rattle.std.proofs.Common.{AllPairs, subst}
use Rattle.std.specs.Prelude.{flat_map, filter, count_by, sum_by, slice_index_or}
use Rattle.std.specs.List.{list_any}
use Rattle.std.proofs.lemmas.Bool.{false≢true, eqb-true, eqb-false, eq-eqb, ne_eqb, cases_Bool, cases_eq}
use Rattle.std.proofs.lemmas.Bool.{not-false, not-true, or_left, or_right, and_cases}
use Rattle.std.proofs.lemmas.List.{length-map}
use Rattle.std.proofs.lemmas.List.Elements.{All-filter, All-append, All-map, All-weaker, filter-append}
use Rattle.std.proofs.lemmas.List.Elements.{filter_passes}
use Rattle.std.proofs.lemmas.List.Filters.{sum_by-filter_both}
use Rattle.std.proofs.lemmas.List.Folds.{list_any-append}
use Rattle.std.proofs.lemmas.List.Sums.{length-filter}
use Rattle.std.proofs.lemmas.Option.{slice_get-get_or}
use Rattle.node_ids.proofs.Updating.{length-updated, sum_by-updated}
use Rattle.word_map.specs.Runs.{MapView}
use Rattle.shuffle_reduce.specs.Merged.{PartView}
use Rattle.worker_table.specs.Workers.{Workers, is_live, taken_slots, with_slot_given, with_death, with_bar}
use Rattle.block_map.specs.Holdings.{without, without_worker}
use Rattle.master_state.specs.declared.states.Attempt.{Attempt}
use Rattle.master_state.specs.declared.states.SplitState.{SplitState}
use Rattle.master_state.specs.declared.states.SplitState.TheVariants.{Pending}
use Rattle.master_state.specs.declared.states.PartState.{PartState}
use Rattle.master_state.specs.declared.states.PartState.TheVariants as part
use Rattle.master_state.specs.States.{Setup, State, worker_of}
use Rattle.master_state.specs.Tests.{is_numbered, is_on, attempts_of, part_attempts, all_running, runs}
use Rattle.master_state.specs.Tests.{part_runs, split_at, part_at, split_running, part_running}
use Rattle.master_state.specs.Tests.{all_parts_done}
use Rattle.master_state.specs.Refusals.{MapDone, MapFailed, Withdraw, Die, PartDone, PartFailed, refusal}
use Rattle.master_state.specs.Refusals.{reasons, no_split_runs, no_part_runs}
use Rattle.master_state.specs.Changes.{without_attempts, part_without, done_by, part_done_by, without_attempt}
use Rattle.master_state.specs.Changes.{after_death, died, with_map_done, with_part_done, after}
use Rattle.master_state.specs.Tidy.{IsTidy, AreHolders}
use Rattle.master_state.proofs.Lists.{at-map, All-changed, All-left, All-right, flat_map-filter, filter_none}
use Rattle.master_state.proofs.Facts.{count-all_running}
use Rattle.master_state.proofs.Places.{IsPlaced, placed, told_split, told_part, split_inside, found_split}
use Rattle.master_state.proofs.Places.{found_part, done_at, part_without_at}
use Rattle.master_state.proofs.Holding.{held_less}
use Rattle.master_state.proofs.Less.{IsLess, others, tidy_ended, attempts-without, attempts-part_without}
use Rattle.master_state.proofs.Less.{attempts-part_done_by, attempts-death, less_without}
use Rattle.master_state.proofs.Less.{less_done_by, less_death, part_less_filter}
use Rattle.master_state.proofs.Slots.{IsFit, fit_given, fit_all_given, fit_death, all_given, taken_given}
use Rattle.master_state.proofs.Slots.{taken_all_given, taken_death, live_given, live_all_given, live_death}
use Rattle.master_state.proofs.Reasons.{none_applies, room_left}
use Rattle.master_state.proofs.Tidying.{tidy_counted, fit_of, held_kept}

-- of attempts with numbers of their own, one has the number a
filter_once : (a : ℕ) (attempts : List Attempt) → AllPairs (λ x y. x.number ≢ y.number) attempts →
    list_any (is_numbered a) attempts ≡ true → (x : Attempt) × (filter (is_numbered a) attempts ≡ x ∷ [])
filter_once a [] once any = absurd (false≢true any)
filter_once a (x ∷ attempts) once any = elim (cases_Bool (is_numbered a x)) [
  | inl here ↦ (
    x,
    rw here (ap (λ xs. x ∷ xs) (filter_none (is_numbered a) attempts
        (λ k d l. ne_eqb _ a (λ e. once 0 (suc k) d (omega arith) (omega (arith, l)) (eqb-true x.number a here
        ∙ sym e))))),
  )
  | inr off ↦
      let later = filter_once a attempts (λ i j d below l. once (suc i) (suc j) d (omega (arith, below))
      (omega (arith, l)))
      (subst (λ b. (b || list_any (is_numbered a) attempts) ≡ true) off any) in (
        later.0,
        ap (λ b. cond b (x ∷ filter (is_numbered a) attempts) (filter (is_numbered a) attempts)) off
            ∙ later.1,
      )
]

-- so the attempt a takes one slot, of the worker that the starts tell
one_slot : (setup : Setup) (s : State) (a w : ℕ) → IsTidy setup s →
    list_any (is_numbered a) (all_running s) ≡ true →
    count_by (is_on w) (filter (is_numbered a) (all_running s)) ≡ cond (worker_of s a == w) 1 0
one_slot setup s a w tidy any =
    let alone = filter_once a (all_running s) tidy.once any in
    let x = alone.0 in
    let number : x.number ≡ a =
    eqb-true x.number a (subst (λ xs. All (λ y. is_numbered a y ≡ true) xs) alone.1
    (filter_passes (is_numbered a) (all_running s)) 0 x (omega arith)) in
    let there : worker_of s x.number ≡ x.worker =
    subst (λ xs. All (IsPlaced s) xs) alone.1 (All-filter (is_numbered a) (IsPlaced s) (all_running s)
    (placed setup s tidy)) 0 x (omega arith) in
    grind arith

list_any-flat_map : {X Y : Type 0} (test : Y → Bool) (f : X → List Y) (xs : List X) →
    list_any test (flat_map f xs) ≡ list_any (λ x. list_any test (f x)) xs
list_any-flat_map test f [] = refl
list_any-flat_map test f (x ∷ xs) = grind (arith, list_any-flat_map test f xs, list_any-append)

-- an attempt that a split or a part runs is among those that run
runs_somewhere : (s : State) (a : ℕ) →
    list_any (is_numbered a) (all_running s) ≡ (list_any (runs a) s.splits || list_any (part_runs a) s.parts)
runs_somewhere s a = grind (arith, list_any-append, list_any-flat_map)

any_of_split : (s : State) (a : ℕ) → no_split_runs s a ≡ false →
    list_any (is_numbered a) (all_running s) ≡ true
any_of_split s a some = grind (arith, runs_somewhere, or_left, not-false)

any_of_part : (s : State) (a : ℕ) → no_part_runs s a ≡ false → list_any (is_numbered a) (all_running s) ≡ true
any_of_part s a some = grind (arith, runs_somewhere, or_right, not-false)

-- the slots that are taken once the attempt a runs no more
slots_left : (setup : Setup) (s : State) (a : ℕ) → IsTidy setup s →
    list_any (is_numbered a) (all_running s) ≡ true →
    (w : ℕ) → taken_slots (with_slot_given s.workers (worker_of s a)) w ≡ count_by (is_on w)
    (filter (others (is_numbered a)) (all_running s))
slots_left setup s a tidy any w =
    omega (
      arith,
      taken_given s.workers (worker_of s a) w,
      tidy.taken w,
      one_slot setup s a w tidy any,
      sum_by-filter_both (is_numbered a) (others (is_numbered a)) (λ x. refl) (λ x. cond (is_on w x) 1 0)
          (all_running s),
    )

live_left : (setup : Setup) (s : State) (a : ℕ) → IsTidy setup s →
    All (λ attempt. is_live (with_slot_given s.workers (worker_of s a)) attempt.worker ≡ true)
    (filter (others (is_numbered a)) (all_running s))
live_left setup s a tidy = search (arith, All-weaker, live_given, others, All-filter)

held_left : (setup : Setup) (s : State) (v : ℕ) → IsTidy setup s →
    All (AreHolders (with_slot_given s.workers v)) s.holders
held_left setup s v tidy = grind (arith, held_kept, live_given)

-- a state of which the attempts that pass a test ended, by a change of each split and of each part
tidy_gone : (setup : Setup) (s : State) (table : Workers) (lists : List (List ℕ)) (test : Attempt → Bool)
    (change : SplitState → SplitState) (end : PartState → PartState) → IsTidy setup s → IsFit setup table →
    length lists ≡ length s.holders → All (AreHolders table) lists → change Pending ≡ Pending →
    end part.Pending ≡ part.Pending →
    ((split : SplitState) → attempts_of (change split) ≡ filter (others test) (attempts_of split)) →
    ((state : PartState) → part_attempts (end state) ≡ filter (others test) (part_attempts state)) →
    ((split : SplitState) → IsLess split (change split)) →
    ((w : ℕ) → taken_slots table w ≡ count_by (is_on w) (filter (others test) (all_running s))) →
    All (λ attempt. is_live table attempt.worker ≡ true) (filter (others test) (all_running s)) →
    IsTidy setup (record s {
      workers = table;
      holders = lists;
      splits = map change s.splits;
      parts = map end s.parts;
    })
tidy_gone setup s table lists test change end tidy fit same held a b splits parts less taken live =
    tidy_ended setup s table lists (map change s.splits) (map end s.parts)
    (filter (others test) (all_running s)) tidy fit same held (length-map s.splits change)
    (length-map s.parts end) (rw (
      flat_map-filter attempts_of change (others test) s.splits splits,
      flat_map-filter part_attempts end (others test) s.parts parts,
    ) (sym (filter-append (others test) (flat_map attempts_of s.splits) (flat_map part_attempts s.parts))))
    taken live
    (λ k. rw (ap (slice_index_or (map change s.splits) k) (sym a) ∙ at-map change s.splits k Pending)
    (less (split_at s k)))
    (λ r. rw (ap (slice_index_or (map end s.parts) r) (sym b) ∙ at-map end s.parts r part.Pending)
    (part_less_filter test (part_at s r) (end (part_at s r)) (parts (part_at s r))))

-- an attempt that runs no more
pub tidy_without : (setup : Setup) (s : State) (a : ℕ) → IsTidy setup s →
    list_any (is_numbered a) (all_running s) ≡ true →
    IsTidy setup (without_attempt s a)
tidy_without setup s a tidy any =
    let v = worker_of s a in
    let test = is_numbered a in
    tidy_gone setup s (with_slot_given s.workers v) s.holders test (without_attempts test) (part_without test)
    tidy (fit_given setup s.workers v (fit_of setup s tidy)) refl (held_left setup s v tidy) refl refl
    (attempts-without test) (attempts-part_without test) (less_without test) (slots_left setup s a tidy any)
    (live_left setup s a tidy)

pub tidy_withdraw : (setup : Setup) (s : State) (a : ℕ) → IsTidy setup s →
    refusal setup s (Withdraw a) ≡ None →
    IsTidy setup (after s (Withdraw a))
tidy_withdraw setup s a tidy allowed =
    let none = none_applies (reasons setup s (Withdraw a)) allowed in
    let any : list_any (is_numbered a) (all_running s) ≡ true =
    elim (and_cases (no_split_runs s a) (no_part_runs s a) none.0) [
      | inl split ↦ any_of_split s a split
      | inr part ↦ any_of_part s a part
    ] in
    tidy_counted setup (without_attempt s a) (tidy_without setup s a tidy any) (room_left setup s none.1.0)

pub tidy_part_failed : (setup : Setup) (s : State) (a : ℕ) → IsTidy setup s →
    refusal setup s (PartFailed a) ≡ None →
    IsTidy setup (after s (PartFailed a))
tidy_part_failed setup s a tidy allowed =
    let none = none_applies (reasons setup s (PartFailed a)) allowed in
    tidy_counted setup (without_attempt s a) (tidy_without setup s a tidy (any_of_part s a none.0))
    (room_left setup s none.1.0)

pub tidy_map_failed : (setup : Setup) (s : State) (a : ℕ) → IsTidy setup s →
    refusal setup s (MapFailed a) ≡ None →
    IsTidy setup (after s (MapFailed a))
tidy_map_failed setup s a tidy allowed =
    let none = none_applies (reasons setup s (MapFailed a)) allowed in
    let left = without_attempt s a in
    let table = with_bar left.workers (split_running s a) (worker_of s a) in
    let kept = tidy_without setup s a tidy (any_of_split s a none.0) in
    grind (arith, length-updated)

pub attempts-done_by : (a : ℕ) (split : SplitState) → runs a split ≡ true → attempts_of (done_by a split) ≡ []
attempts-done_by a split run = grind arith

-- the slots that are taken once a split is done
slots_done : (setup : Setup) (s : State) (a k w : ℕ) → IsTidy setup s → runs a (split_at s k) ≡ true →
    taken_slots (all_given s.workers (attempts_of (split_at s k))) w
    ≡ count_by (is_on w) (flat_map attempts_of (map (done_by a) s.splits) ++ flat_map part_attempts s.parts)
slots_done setup s a k w tidy run =
    let slots : SplitState → ℕ = λ split. count_by (is_on w) (attempts_of split) in
    let there = slice_get-get_or s.splits k Pending (split_inside s a k run) in
    let none : slots (done_by a (split_at s k)) ≡ 0 =
    ap (count_by (is_on w)) (attempts-done_by a (split_at s k) run) in
    omega (
      arith,
      taken_all_given s.workers (attempts_of (split_at s k)) w,
      tidy.taken w,
      count-all_running s w,
      count-all_running (record s { splits = map (done_by a) s.splits }) w,
      ap (sum_by slots) (done_at setup s a k (worker_of s a) tidy (told_split setup s a k tidy run)),
      sum_by-updated slots (done_by a) s.splits k (split_at s k) there,
      none,
    )

live_done : (setup : Setup) (s : State) (a : ℕ) → IsTidy setup s →
    All (λ attempt. is_live s.workers attempt.worker ≡ true) (flat_map attempts_of (map (done_by a) s.splits)
    ++ flat_map part_attempts s.parts)
live_done setup s a tidy =
    let Lives : Attempt → Type 0 = λ attempt. is_live s.workers attempt.worker ≡ true in
    let splits = flat_map attempts_of s.splits in
    let parts = flat_map part_attempts s.parts in
    All-append Lives (flat_map attempts_of (map (done_by a) s.splits)) parts
    (All-changed Lives attempts_of (done_by a) s.splits (λ split. (less_done_by a split).kept Lives)
    (All-left Lives splits parts tidy.live))
    (All-right Lives splits parts tidy.live)

pub tidy_map_done : (setup : Setup) (s : State) (a : ℕ) → IsTidy setup s → no_split_runs s a ≡ false →
    IsTidy setup (with_map_done s a)
tidy_map_done setup s a tidy some =
    let k = split_running s a in
    let gone = attempts_of (split_at s k) in
    let table = all_given s.workers gone in
    let rest = flat_map attempts_of (map (done_by a) s.splits) ++ flat_map part_attempts s.parts in
    tidy_ended setup s table s.holders (map (done_by a) s.splits) s.parts rest tidy
    (fit_all_given setup s.workers gone (fit_of setup s tidy)) refl
    (held_kept s.workers table s.holders (λ w live. live_all_given s.workers gone w ∙ live) tidy.held)
    (length-map s.splits (done_by a)) refl refl
    (λ w. slots_done setup s a k w tidy (found_split s a some))
    (All-weaker (λ attempt. is_live s.workers attempt.worker ≡ true)
    (λ attempt. is_live table attempt.worker ≡ true)
    (λ attempt live. live_all_given s.workers gone attempt.worker ∙ live) rest (live_done setup s a tidy))
    (λ j. rw (at-map (done_by a) s.splits j Pending) (less_done_by a (split_at s j)))
    (λ r P all. all)

pub tidy_after_map_done : (setup : Setup) (s : State) (a : ℕ) (result : MapView) → IsTidy setup s →
    refusal setup s (MapDone a result) ≡ None → IsTidy setup (after s (MapDone a result))
tidy_after_map_done setup s a result tidy allowed =
    let none = none_applies (reasons setup s (MapDone a result)) allowed in
    tidy_counted setup (with_map_done s a) (tidy_map_done setup s a tidy none.0)
    (room_left setup s none.1.1.0)

pub tidy_part_done : (setup : Setup) (s : State) (a : ℕ) (result : PartView) → IsTidy setup s →
    refusal setup s (PartDone a result) ≡ None → IsTidy setup (after s (PartDone a result))
tidy_part_done setup s a result tidy allowed =
    let none = none_applies (reasons setup s (PartDone a result)) allowed in
    let v = worker_of s a in
    let test = is_numbered a in
    let start = told_part setup s a (part_running s a) tidy (found_part s a none.0) in
    let same = (part_without_at setup s a (part_running s a) v tidy start).0 in
    tidy_counted setup (with_part_done s a)
    (subst (λ splits. IsTidy setup (record (with_part_done s a) { splits = splits })) same
    (tidy_gone setup s (with_slot_given s.workers v) s.holders test (without_attempts test) (part_done_by a)
    tidy (fit_given setup s.workers v (fit_of setup s tidy)) refl (held_left setup s v tidy) refl refl
    (attempts-without test) (attempts-part_done_by a) (less_without test)
    (slots_left setup s a tidy (any_of_part s a none.0)) (live_left setup s a tidy)))
    (room_left setup s none.1.1.0)

-- after a death no slot of the worker is taken, and as many of the others as before
count_none : {X : Type 0} (test : X → Bool) (xs : List X) → All (λ x. test x ≡ false) xs →
    count_by test xs ≡ 0
count_none test xs none = sym (length-filter test xs) ∙ ap length (filter_none test xs none)

slots_death : (setup : Setup) (s : State) (v w : ℕ) → IsTidy setup s →
    taken_slots (with_death s.workers v) w ≡ count_by (is_on w) (filter (others (is_on v)) (all_running s))
slots_death setup s v w tidy = elim (cases_eq v w) [
  | inl same ↦ grind (arith, taken_death, eq-eqb, count_none, others, All-weaker, not-true, filter_passes)
  | inr differ ↦
      let lost : count_by (is_on w) (filter (is_on v) (all_running s)) ≡ 0 =
      count_none (is_on w) (filter (is_on v) (all_running s))
      (All-weaker (λ x. is_on v x ≡ true) (λ x. is_on w x ≡ false)
      (λ x on. ne_eqb x.worker w (λ e. differ (sym (eqb-true x.worker v on) ∙ e)))
      (filter (is_on v) (all_running s)) (filter_passes (is_on v) (all_running s))) in
      grind (arith, taken_death, ne_eqb, sum_by-filter_both, others)
]

-- any worker may die
pub tidy_died : (setup : Setup) (s : State) (v : ℕ) → IsTidy setup s → IsTidy setup (died s v)
tidy_died setup s v tidy =
    let stays = all_parts_done s in
    let test = is_on v in
    tidy_gone setup s (with_death s.workers v) (without_worker s.holders v) test (after_death stays v)
    (part_without test) tidy (fit_death setup s.workers v (fit_of setup s tidy))
    (length-map s.holders (without v))
    (All-map (AreHolders (with_death s.workers v)) (without v) s.holders
    (All-weaker (AreHolders s.workers) (λ holders. AreHolders (with_death s.workers v) (without v holders))
    (λ holders. held_less s.workers (with_death s.workers v) (λ h. not (h == v)) holders
    (λ h off live. live_death s.workers v h (eqb-false h v (not-true _ off)) ∙ live)) s.holders tidy.held))
    refl refl (attempts-death stays v) (attempts-part_without test) (less_death stays v)
    (λ w. slots_death setup s v w tidy)
    (λ k d l. live_death s.workers v _
    (eqb-false _ v (not-true _ (filter_passes (others test) (all_running s) k d l)))
    ∙ All-filter (others test) (λ attempt. is_live s.workers attempt.worker ≡ true) (all_running s)
    tidy.live k d l)

pub tidy_die : (setup : Setup) (s : State) (v : ℕ) → IsTidy setup s → refusal setup s (Die v) ≡ None →
    IsTidy setup (after s (Die v))
tidy_die setup s v tidy allowed =
    tidy_counted setup (died s v) (tidy_died setup s v tidy)
    (room_left setup s (none_applies (reasons setup s (Die v)) allowed).1.0)
