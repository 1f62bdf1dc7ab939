-- What a caller of the machine may rely on.
use Rattle.std.proofs.Common.{◌≡◌, ◌≢◌, ℕ, List, [], ◌∷◌, ◌++◌, map, Bool, true, false, not, Option, Some}
use Rattle.std.proofs.Common.{None, refl, sym, ap, ◌∙◌, arith, inl, inr, All, subst}
use Rattle.std.specs.List.{list_any}
use Rattle.std.proofs.lemmas.Bool.{false≢true, eq-eqb, ne_eqb, cases_eq, not_from_true, or_from}
use Rattle.std.proofs.lemmas.Grind.{common_steps}
use Rattle.std.proofs.lemmas.List.Elements.{All-from_get_or, All-map}
use Rattle.std.proofs.lemmas.List.Folds.{list_any_none}
use Rattle.word_map.specs.Runs.{MapView}
use Rattle.word_map.proofs.TextLemmas.{Decides-same_text}
use Rattle.shuffle_reduce.specs.Merged.{PartView, AreSameTexts}
use Rattle.shuffle_reduce.proofs.CoverLemmas.{Decides-same_texts}
use Rattle.master_state.specs.declared.answers.Why.{Why}
use Rattle.master_state.specs.declared.answers.Why.TheVariants.{OldAttempt, WrongInput, HistoryFull}
use Rattle.master_state.specs.declared.events.Event.{Event}
use Rattle.master_state.specs.declared.states.Attempt.{Attempt}
use Rattle.master_state.specs.declared.states.Work.TheVariants as works
use Rattle.master_state.specs.declared.states.SplitState.{SplitState}
use Rattle.master_state.specs.declared.states.SplitState.TheVariants.{Pending, Running}
use Rattle.master_state.specs.States.{Setup, State, worker_of}
use Rattle.master_state.specs.Tests.{is_numbered, is_on, attempts_of, runs, split_at, split_running}
use Rattle.master_state.specs.Tests.{part_running, all_parts_done}
use Rattle.master_state.specs.Refusals.{MapDone, first_true, split_text, is_full, no_split_runs, no_part_runs}
use Rattle.master_state.specs.Refusals.{is_wrong_map, is_wrong_part}
use Rattle.master_state.specs.Changes.{after, without_attempts, after_death, done_by}
use Rattle.master_state.specs.Steps.{Step, Leads}
use Rattle.master_state.specs.Laws.{EveryAheadIsOfABestPlan, EveryWaveIsBest, ResultsAsToldAreRight}
use Rattle.master_state.specs.Laws.{PartsAsToldAreRight}
use Rattle.master_state.specs.Laws.{SecondResultsAreOld, TheOtherGoesOn, GoesOnAlone}
use Rattle.master_state.specs.Tidy.{IsTidy, IsToldAs}
use Rattle.master_state.proofs.Lists.{at-map}
use Rattle.master_state.proofs.Less.{without_first, without_second}
use Rattle.master_state.proofs.Places.{told_split, told_part, one_split, one_part, runs_alone}
use Rattle.master_state.proofs.Places.{found_split, found_part, done_by_none}
use Rattle.master_state.proofs.Ending.{attempts-done_by}

-- an event at its place: what came before, the step, and what came later
abbrev HasStep : Setup → State → List Event → Event → List Event → State → Type 0
HasStep setup old before event later new =
    (mid : State) × (next : State)
    × Leads setup old before mid × Step setup mid event next × Leads setup next later new

step_between : (setup : Setup) (old : State) (before : List Event) (event : Event) (later : List Event)
    (new : State) →
    Leads setup old (before ++ event ∷ later) new → HasStep setup old before event later new
step_between setup old [] event later new leads = (old, leads.0, refl, leads.1, leads.2)
step_between setup old (first ∷ before) event later new leads =
    grind (arith, step_between setup leads.0 before event later new leads.2)

pub every_wave_is_best : EveryWaveIsBest
every_wave_is_best setup before later first count cost s legal = grind (arith, step_between)

pub every_ahead_is_of_a_best_plan : EveryAheadIsOfABestPlan
every_ahead_is_of_a_best_plan setup before later first count cost s legal = grind (arith, step_between)

-- a result is refused for its input only where it is wrong
abbrev is_wrong_input : Option Why → Bool
is_wrong_input (Some WrongInput) = true
is_wrong_input other = false

not_wrong : (old wrong full : Bool) → (old ≡ false → wrong ≡ false) →
    first_true ((old, OldAttempt) ∷ (wrong, WrongInput) ∷ (full, HistoryFull) ∷ []) ≡ Some WrongInput → ⊥
not_wrong true wrong full right e = false≢true (ap is_wrong_input e)
not_wrong false true full right e = false≢true (sym (right refl))
not_wrong false false true right e = false≢true (ap is_wrong_input e)
not_wrong false false false right e = false≢true (ap is_wrong_input e)

right_map : (setup : Setup) (k : ℕ) (result : MapView) → result.text ≡ split_text setup k →
    result.parts ≡ setup.cluster.parts →
    is_wrong_map setup k result ≡ false
right_map setup k result text parts = grind (arith, or_from, not_from_true, Decides-same_text, eq-eqb)

pub results_as_told_are_right : ResultsAsToldAreRight
results_as_told_are_right setup s a split w result tidy start text parts refused =
    not_wrong (no_split_runs s a) (is_wrong_map setup (split_running s a) result) (is_full setup s)
    (λ some.
    let found = told_split setup s a (split_running s a) tidy (found_split s a some) in
    subst (λ k. is_wrong_map setup k result ≡ false)
    (one_split s a split (split_running s a) w (worker_of s a) start found)
    (right_map setup split result text parts))
    refused

right_part : (setup : Setup) (r : ℕ) (result : PartView) → result.part ≡ r →
    result.parts ≡ setup.cluster.parts →
    AreSameTexts result.texts setup.cluster.texts → is_wrong_part setup r result ≡ false
right_part setup r result part parts same = grind (arith, not_from_true, eq-eqb, Decides-same_texts)

pub parts_as_told_are_right : PartsAsToldAreRight
parts_as_told_are_right setup s a r w result tidy start part parts same refused =
    not_wrong (no_part_runs s a) (is_wrong_part setup (part_running s a) result) (is_full setup s)
    (λ some.
    let found = told_part setup s a (part_running s a) tidy (found_part s a some) in
    subst (λ k. is_wrong_part setup k result ≡ false) (one_part s a r (part_running s a) w (worker_of s a)
    start found)
    (right_part setup r result part parts same))
    refused

-- after a result no split runs an attempt of the split that is done
none_after : (setup : Setup) (s : State) (split a b k : ℕ) → IsTidy setup s →
    runs a (split_at s split) ≡ true →
    runs b (split_at s split) ≡ true → runs b (done_by a (split_at s k)) ≡ false
none_after setup s split a b k tidy first second = elim (cases_eq k split) [
  | inl same ↦ rw same (ap (list_any (is_numbered b)) (attempts-done_by a (split_at s split) first))
  | inr other ↦
      ap (runs b)
      (done_by_none a (split_at s k) (runs_alone setup s a split (worker_of s a) k tidy
      (told_split setup s a split tidy first) other))
      ∙ runs_alone setup s b split (worker_of s b) k tidy (told_split setup s b split tidy second) other
]

pub second_results_are_old : SecondResultsAreOld
second_results_are_old setup s split a b result other tidy first second =
    let none : no_split_runs (after s (MapDone a result)) b ≡ true =
    ap not (list_any_none (runs b) (map (done_by a) s.splits)
    (All-map (λ state. runs b state ≡ false) (done_by a) s.splits
    (All-from_get_or (λ state. runs b (done_by a state) ≡ false) s.splits Pending
    (λ k l. none_after setup s split a b k tidy first second)))) in
    rw none refl

-- two attempts of a split have two numbers
two_numbers : (setup : Setup) (s : State) (split : ℕ) (one other : Attempt) → IsTidy setup s →
    split_at s split ≡ Running one (Some other) → one.number ≢ other.number
two_numbers setup s split one other tidy both same =
    let told = subst (λ state. All (IsToldAs s (works.Split split)) (attempts_of state)) both
    (tidy.told split) in
    grind arith

goes_on : (s : State) (split : ℕ) (both : SplitState) (lost other : Attempt) → split_at s split ≡ both →
    without_attempts (is_numbered lost.number) both ≡ Running other None →
    after_death (all_parts_done s) lost.worker both ≡ Running other None → GoesOnAlone s split lost other
goes_on s split both lost other is numbered dead = grind (arith, common_steps, at-map)

pub the_other_goes_on : TheOtherGoesOn
the_other_goes_on setup s split one other tidy both =
    let apart = two_numbers setup s split one other tidy both in
    let elsewhere = tidy.apart split one other both in (
      goes_on s split (Running one (Some other)) one other both
          (without_first (is_numbered one.number) one other (eq-eqb one.number one.number refl)
          (ne_eqb other.number one.number (λ e. apart (sym e))))
          (without_first (is_on one.worker) one other (eq-eqb one.worker one.worker refl)
          (ne_eqb other.worker one.worker (λ e. elsewhere (sym e)))),
      goes_on s split (Running one (Some other)) other one both
          (without_second (is_numbered other.number) one other (ne_eqb one.number other.number apart)
          (eq-eqb other.number other.number refl))
          (without_second (is_on other.worker) one other (ne_eqb one.worker other.worker elsewhere)
          (eq-eqb other.worker other.worker refl)),
    )
