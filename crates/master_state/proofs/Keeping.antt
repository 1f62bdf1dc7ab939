-- A master keeps its promises by every call that is accepted, and by every wave.
use Rattle.std.proofs.Common.{◌≡◌, ℕ, ◌==◌, ◌||◌, List, [], ◌∷◌, ◌++◌, map, cond, Bool}
use Rattle.std.proofs.Common.{true, false, not, None, refl, sym, ap, ◌∙◌, arith, inl, inr}
use Rattle.std.specs.Prelude.{fold, slice_index_or}
use Rattle.std.proofs.lemmas.Bool.{false≢true, eqb-true, eq-eqb, ne_eqb, cases_eq, not-false, or_parts}
use Rattle.std.proofs.lemmas.Grind.{common_steps}
use Rattle.std.proofs.lemmas.List.{append-nil}
use Rattle.std.proofs.lemmas.List.Elements.{All-nil, All-push}
use Rattle.std.proofs.lemmas.List.Sums.{sum_by_push}
use Rattle.wave_problem.specs.Assignment.{pairs_of}
use Rattle.shuffle_reduce.specs.Merged.{IsPartOf, PartView, same_texts}
use Rattle.shuffle_reduce.proofs.CoverLemmas.{Decides-same_texts}
use Rattle.master_state.specs.declared.states.Attempt.{Attempt}
use Rattle.master_state.specs.declared.states.PartState.{PartState}
use Rattle.master_state.specs.declared.states.PartState.TheVariants as part
use Rattle.master_state.specs.declared.events.Event.TheVariants as events
use Rattle.master_state.specs.States.{Setup, State}
use Rattle.master_state.specs.Tests.{is_numbered, is_on, part_runs, part_at, part_running}
use Rattle.master_state.specs.Tests.{part_is_done, part_is_pending}
use Rattle.master_state.specs.Refusals.{Call, MapDone, MapFailed, Withdraw, Die, Join, Add, Lose, Sweep}
use Rattle.master_state.specs.Refusals.{ReduceStart, PartDone, PartFailed, Backup, IsKnown, refusal, reasons}
use Rattle.master_state.specs.Changes.{after, split_started, died, part_without, part_done_by}
use Rattle.master_state.specs.Tidy.{IsTidy}
use Rattle.master_state.specs.Jobs.{AreResults, IsResult, added_by}
use Rattle.master_state.specs.Laws.{AheadsKeep, CallsKeep, WavesKeep, OpeningIsKept}
use Rattle.master_state.proofs.Lists.{at-map, at-updated_other, at-updated_same, any_inside, any_found}
use Rattle.master_state.proofs.BarRoom.{room_after, room_after_wave}
use Rattle.master_state.proofs.Reasons.{none_applies}
use Rattle.master_state.proofs.Places.{found_part, told_part, part_runs_alone, part_done_by_none}
use Rattle.master_state.proofs.Starting.{all_started}
use Rattle.master_state.proofs.Opening.{tidy_opening, pending_part}
use Rattle.master_state.proofs.Sweeping.{heard_state}
use Rattle.master_state.proofs.Steps.{Leads-more, legal-accepted}
use Rattle.master_state.proofs.Histories.{tidy_change, tidy_step}

-- where the same parts are done, the results are theirs still
results_same : {setup : Setup} {old new : State} {results : List PartView} →
    ((r : ℕ) → part_is_done (part_at new r) ≡ part_is_done (part_at old r)) → AreResults setup old results →
    AreResults setup new (results ++ [])
results_same {results = results} same kept = grind (arith, append-nil)

done_or_pending : (b : Bool) (a : Attempt) → part_is_done (cond b part.Pending (part.Running a)) ≡ false
done_or_pending true a = refl
done_or_pending false a = refl

-- the end of an attempt, a death and a start leave the done parts as they are
pub done_without : (test : Attempt → Bool) (state : PartState) →
    part_is_done (part_without test state) ≡ part_is_done state
done_without test part.Pending = refl
done_without test (part.Running a) = done_or_pending (test a) a
done_without test part.Done = refl

all_done_without : (test : Attempt → Bool) (s : State) (r : ℕ) →
    part_is_done (slice_index_or (map (part_without test) s.parts) r part.Pending) ≡ part_is_done
    (part_at s r)
all_done_without test s r =
    ap part_is_done (at-map (part_without test) s.parts r part.Pending) ∙ done_without test (part_at s r)

done_all_died : (s : State) (workers : List ℕ) (r : ℕ) →
    part_is_done (part_at (fold died s workers) r) ≡ part_is_done (part_at s r)
done_all_died s [] r = refl
done_all_died s (w ∷ workers) r = done_all_died (died s w) workers r ∙ all_done_without (is_on w) s r

parts_all_started : (s : State) (pairs : List (ℕ × ℕ)) → (all_started s pairs).parts ≡ s.parts
parts_all_started s [] = refl
parts_all_started s ((k, v) ∷ pairs) = parts_all_started (split_started s k v) pairs

pending_not_done : (state : PartState) → part_is_pending state ≡ true → part_is_done state ≡ false
pending_not_done part.Pending e = refl
pending_not_done (part.Running a) e = absurd (false≢true e)
pending_not_done part.Done e = absurd (false≢true e)

done_reduce : (setup : Setup) (s : State) (r : ℕ) → refusal setup s ReduceStart ≡ None →
    part_is_done (part_at (after s ReduceStart) r) ≡ part_is_done (part_at s r)
done_reduce setup s r allowed =
    grind (
      arith,
      none_applies,
      or_parts,
      not-false,
      cases_eq,
      at-updated_same,
      any_inside,
      pending_not_done,
      any_found,
      at-updated_other,
    )

ended : (b : Bool) (a : Attempt) → (b || false) ≡ true →
    part_is_done (cond b part.Done (part.Running a)) ≡ true
ended true a e = refl
ended false a e = absurd (false≢true e)

-- a part's result is one more, of the part that it was handed in for
part_ends : (a : ℕ) (state : PartState) → part_runs a state ≡ true →
    (part_is_done state ≡ false) × (part_is_done (part_done_by a state) ≡ true)
part_ends a part.Pending run = absurd (false≢true run)
part_ends a (part.Running attempt) run = (refl, ended (is_numbered a attempt) attempt run)
part_ends a part.Done run = absurd (false≢true run)

results_more : (setup : Setup) (s : State) (a : ℕ) (result : PartView) (results : List PartView) →
    IsTidy setup s → IsPartOf result.texts result.part result.parts result.pairs →
    refusal setup s (PartDone a result) ≡ None → AreResults setup s results →
    AreResults setup (after s (PartDone a result)) (results ++ result ∷ [])
results_more setup s a result results tidy merged allowed kept =
    let none = none_applies (reasons setup s (PartDone a result)) allowed in
    let here = part_running s a in
    let run = found_part s a none.0 in
    let start = told_part setup s a here tidy run in
    let covers = same_texts result.texts setup.cluster.texts in
    let parts = or_parts (not (result.part == here) || not (result.parts == setup.cluster.parts)) (not covers)
    none.1.0 in
    let numbers = or_parts (not (result.part == here)) (not (result.parts == setup.cluster.parts)) parts.0 in
    let part_is : result.part ≡ here = eqb-true result.part here (not-false (result.part == here) numbers.0)
    in
    record {
      each = All-push (IsResult setup) results result kept.each (record {
        texts = (Decides-same_texts result.texts setup.cluster.texts).0 (not-false covers parts.1);
        parts = eqb-true result.parts setup.cluster.parts (not-false (result.parts == setup.cluster.parts)
            numbers.1);
        merged = merged;
      });
      one_each = λ r. sum_by_push (λ (one : PartView). cond (one.part == r) 1 0) results result
          ∙ elim (cases_eq r here) [
            | inl same ↦ grind (arith, common_steps, part_ends, eq-eqb, at-map)
            | inr other ↦
                let counted : ℕ = cond (result.part == r) 1 0 in
                let none_more : counted ≡ 0 = ap (λ b. let n : ℕ = cond b 1 0 in n)
                (ne_eqb result.part r (λ e. other (sym e ∙ part_is))) in
                let new : part_is_done (part_at (after s (PartDone a result)) r)
                ≡ part_is_done (part_at s r) =
                ap part_is_done (at-map (part_done_by a) s.parts r part.Pending
                ∙ part_done_by_none a (part_at s r) (part_runs_alone setup s a here _ r tidy start other)) in
                rw new (omega (arith, kept.one_each r, none_more))
          ];
    }

-- the results after a call are those before, and the one that it adds
results_after : (setup : Setup) (s : State) (call : Call) (results : List PartView) → IsTidy setup s →
    IsKnown setup call → refusal setup s call ≡ None → AreResults setup s results →
    AreResults setup (after s call) (results ++ added_by call)
results_after setup s (MapDone a result) results tidy known allowed kept = results_same (λ r. refl) kept
results_after setup s (MapFailed a) results tidy known allowed kept =
    results_same (all_done_without (is_numbered a) s) kept
results_after setup s (Withdraw a) results tidy known allowed kept =
    results_same (all_done_without (is_numbered a) s) kept
results_after setup s (Die w) results tidy known allowed kept = results_same (all_done_without (is_on w) s) kept
results_after setup s (Join w set) results tidy known allowed kept = results_same (λ r. refl) kept
results_after setup s (Add split w) results tidy known allowed kept = results_same (λ r. refl) kept
results_after setup s (Lose split w) results tidy known allowed kept = results_same (λ r. refl) kept
results_after setup s (Sweep counts) results tidy known allowed kept =
    grind (arith, common_steps, results_same, done_all_died, heard_state)
results_after setup s ReduceStart results tidy known allowed kept =
    results_same (λ r. done_reduce setup s r allowed) kept
results_after setup s (PartDone a result) results tidy known allowed kept =
    results_more setup s a result results tidy known allowed kept
results_after setup s (PartFailed a) results tidy known allowed kept =
    results_same (all_done_without (is_numbered a) s) kept
results_after setup s (Backup split w) results tidy known allowed kept = results_same (λ r. refl) kept

pub calls_keep : CallsKeep
calls_keep old new call place kept accepted =
    let next = accepted.next in
    record {
      whole = rw next.setup kept.whole;
      small = rw next.setup kept.small;
      legal = legal-accepted old new call place kept.legal accepted;
      tidy = rw next.setup (tidy_change old.setup old.state call new.state kept.tidy accepted.change);
      bars = rw (next.setup, accepted.change.leads) (omega (arith, kept.bars, room_after old.state call));
      results = rw (next.setup, next.results, accepted.change.leads)
          (results_after old.setup old.state call old.results kept.tidy accepted.change.known
          accepted.change.allowed kept.results);
    }

pub waves_keep : WavesKeep
waves_keep old new plan wave kept committed =
    let next = committed.next in
    let event = events.Wave wave.first wave.count wave.cost in
    record {
      whole = rw next.setup kept.whole;
      small = rw next.setup kept.small;
      legal = grind (arith, Leads-more);
      tidy = rw next.setup (tidy_step old.setup old.state event new.state kept.tidy (plan, committed.change));
      bars = rw (next.setup, committed.change.leads)
          (omega (arith, kept.bars, room_after_wave old.state (pairs_of plan)));
      results = grind (arith, common_steps, results_same, parts_all_started);
    }

pub aheads_keep : AheadsKeep
aheads_keep old new asked plan starts wave kept committed =
    let next = committed.next in
    let event = events.Ahead wave.first wave.count wave.cost in
    record {
      whole = rw next.setup kept.whole;
      small = rw next.setup kept.small;
      legal = grind (arith, Leads-more);
      tidy = rw next.setup (tidy_step old.setup old.state event new.state kept.tidy
          (asked, plan, starts, committed.change));
      bars = rw (next.setup, committed.change.leads)
          (omega (arith, kept.bars, room_after_wave old.state (pairs_of starts)));
      results = grind (arith, common_steps, results_same, parts_all_started);
    }

pub opening_is_kept : OpeningIsKept
opening_is_kept setup whole small = search (arith, tidy_opening, All-nil, pending_part)
