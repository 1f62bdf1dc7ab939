-- What changes of entries show, and which results they keep.
use Rattle.std.proofs.Common.{◌≡◌, ℕ, zero, suc, ◌&&◌, List, [], ◌∷◌, ◌++◌, map, get_or, cond, Bool, true}
use Rattle.std.proofs.Common.{false, not, Option, Some, None, refl, ap, ◌∙◌, sym}
use Rattle.std.specs.Prelude.{filter, slice_get}
use Rattle.std.specs.Option.{option_map}
use Rattle.std.proofs.lemmas.Option.{slice_get-map, same_Some}
use Rattle.node_ids.specs.Updates.{updated}
use Rattle.word_map.specs.Runs.{MapView}
use Rattle.master_state.specs.declared.states.Attempt.{Attempt}
use Rattle.master_state.specs.declared.states.SplitState.{SplitState}
use Rattle.master_state.specs.declared.states.SplitState.TheVariants as states
use Rattle.master_state.specs.States.{Setup}
use Rattle.master_state.specs.Tests.{attempts_of, running}
use Rattle.master_state.specs.Changes.{without_attempts}
use Rattle.master_tables.specs.declared.entries.SplitEntry.{SplitEntry}
use Rattle.master_tables.specs.declared.entries.SplitEntry.TheVariants.{Pending, Running, Done}
use Rattle.master_tables.specs.Entries.{shown_as, entry_of, entry_after_death, entry_with, entry_without}
use Rattle.master_tables.specs.Kept.{AreOfSplits}

shown-running : (attempts : List Attempt) → shown_as (entry_of (running attempts)) ≡ running attempts
shown-running [] = refl
shown-running (one ∷ []) = refl
shown-running (one ∷ other ∷ more) = refl

shown-done : (b : Bool) (attempt : Attempt) (result : MapView) →
    shown_as (cond b Pending (Done attempt result)) ≡ cond b states.Pending (states.Done attempt)
shown-done true attempt result = refl
shown-done false attempt result = refl

-- a split after the deaths of those whose attempts the test names
abbrev pub after_deaths : Bool → (Attempt → Bool) → SplitState → SplitState
after_deaths stays test (states.Done attempt) =
    cond (test attempt && not stays) states.Pending (states.Done attempt)
after_deaths stays test split = without_attempts test split

shown-death : (stays : Bool) (test : Attempt → Bool) (entry : SplitEntry) →
    shown_as (entry_after_death stays test entry) ≡ after_deaths stays test (shown_as entry)
shown-death stays test Pending = refl
shown-death stays test (Running one None) = shown-running (filter (λ a. not (test a)) (one ∷ []))
shown-death stays test (Running one (Some other)) = shown-running (filter (λ a. not (test a)) (one ∷ other
    ∷ []))
shown-death stays test (Done attempt result) = shown-done (test attempt && not stays) attempt result

pub shown-deaths : (stays : Bool) (test : Attempt → Bool) (entries : List SplitEntry) →
    map shown_as (map (entry_after_death stays test) entries)
    ≡ map (after_deaths stays test) (map shown_as entries)
shown-deaths stays test [] = refl
shown-deaths stays test (entry ∷ entries) =
    rw (shown-death stays test entry, shown-deaths stays test entries) refl

-- no entry of a split that is not done keeps a result
never_done : (state : SplitState) (attempt : Attempt) (result : MapView) →
    entry_of state ≡ Done attempt result → ⊥
never_done states.Pending attempt result e = cc
never_done (states.Running one other) attempt result e = cc
never_done (states.Done one) attempt result e = cc

still_done : (b : Bool) (one attempt : Attempt) (made result : MapView) →
    cond b Pending (Done one made) ≡ Done attempt result → Done one made ≡ Done attempt result
still_done true one attempt made result e = cc
still_done false one attempt made result e = e

-- a change that makes no entry done
abbrev pub MakesNone : (SplitEntry → SplitEntry) → Type 0
MakesNone change =
    (entry : SplitEntry) (attempt : Attempt) (result : MapView) → change entry ≡ Done attempt result →
    entry ≡ Done attempt result

pub death_makes_none : (stays : Bool) (test : Attempt → Bool) → MakesNone (entry_after_death stays test)
death_makes_none stays test Pending attempt result e = e
death_makes_none stays test (Running one None) attempt result e = absurd (never_done _ attempt result e)
death_makes_none stays test (Running one (Some other)) attempt result e =
    absurd (never_done _ attempt result e)
death_makes_none stays test (Done one made) attempt result e =
    still_done (test one && not stays) one attempt made result e

some_done : (change : SplitEntry → SplitEntry) → MakesNone change → (found : Option SplitEntry)
    (attempt : Attempt) (result : MapView) → option_map change found ≡ Some (Done attempt result) →
    found ≡ Some (Done attempt result)
some_done change none None attempt result e = cc
some_done change none (Some entry) attempt result e =
    ap Some (none entry attempt result (same_Some _ _ e))

-- keeps the results of the right splits
pub made_mapped : (setup : Setup) (change : SplitEntry → SplitEntry) (entries : List SplitEntry) →
    MakesNone change → AreOfSplits setup entries → AreOfSplits setup (map change entries)
made_mapped setup change entries none made split attempt result found =
    made split attempt result
    (some_done change none (slice_get entries split) attempt result (sym (slice_get-map change entries
    split) ∙ found))

-- an entry without the attempts that end
shown-without : (test : Attempt → Bool) (entry : SplitEntry) →
    shown_as (entry_without test entry) ≡ without_attempts test (shown_as entry)
shown-without test Pending = refl
shown-without test (Running one None) = shown-running (filter (λ a. not (test a)) (one ∷ []))
shown-without test (Running one (Some other)) = shown-running (filter (λ a. not (test a)) (one ∷ other ∷ []))
shown-without test (Done attempt result) = refl

-- a change of one entry shows as the change of what it showed
pub shown-updated : (change : SplitEntry → SplitEntry) (shown : SplitState → SplitState) →
    ((entry : SplitEntry) → shown_as (change entry) ≡ shown (shown_as entry)) →
    (entries : List SplitEntry) (k : ℕ) →
    map shown_as (updated change entries k) ≡ updated shown (map shown_as entries) k
shown-updated change shown same [] k = refl
shown-updated change shown same (entry ∷ entries) zero =
    ap (λ state. state ∷ map shown_as entries) (same entry)
shown-updated change shown same (entry ∷ entries) (suc k) =
    ap (λ rest. shown_as entry ∷ rest) (shown-updated change shown same entries k)

pub shown-ended : (test : Attempt → Bool) (entries : List SplitEntry) (k : ℕ) →
    map shown_as (updated (entry_without test) entries k)
    ≡ updated (without_attempts test) (map shown_as entries) k
shown-ended test = shown-updated (entry_without test) (without_attempts test) (shown-without test)

pub shown-started : (attempt : Attempt) (entries : List SplitEntry) (k : ℕ) →
    map shown_as (updated (entry_with attempt) entries k)
    ≡ updated (λ state. running (attempts_of state ++ attempt ∷ [])) (map shown_as entries) k
shown-started attempt =
    shown-updated (entry_with attempt) (λ state. running (attempts_of state ++ attempt ∷ []))
    (λ entry. shown-running (attempts_of (shown_as entry) ++ attempt ∷ []))

pub start_makes_none : (one : Attempt) → MakesNone (entry_with one)
start_makes_none one entry attempt result e = absurd (never_done _ attempt result e)

pub end_makes_none : (test : Attempt → Bool) → MakesNone (entry_without test)
end_makes_none test Pending attempt result e = e
end_makes_none test (Running one None) attempt result e = absurd (never_done _ attempt result e)
end_makes_none test (Running one (Some other)) attempt result e = absurd (never_done _ attempt result e)
end_makes_none test (Done one made) attempt result e = e

done_before : (change : SplitEntry → SplitEntry) → MakesNone change →
    (entries : List SplitEntry) (k split : ℕ)
    (attempt : Attempt) (result : MapView) →
    slice_get (updated change entries k) split ≡ Some (Done attempt result) →
    slice_get entries split ≡ Some (Done attempt result)
done_before change none [] k split attempt result e = e
done_before change none (entry ∷ entries) zero zero attempt result e =
    ap Some (none entry attempt result (same_Some _ _ e))
done_before change none (entry ∷ entries) zero (suc split) attempt result e = e
done_before change none (entry ∷ entries) (suc k) zero attempt result e = e
done_before change none (entry ∷ entries) (suc k) (suc split) attempt result e =
    done_before change none entries k split attempt result e

pub made_updated : (setup : Setup) (change : SplitEntry → SplitEntry) (entries : List SplitEntry) (k : ℕ) →
    MakesNone change → AreOfSplits setup entries → AreOfSplits setup (updated change entries k)
made_updated setup change entries k none made split attempt result found =
    made split attempt result (done_before change none entries k split attempt result found)

pub updated-kept : {X : Type 0} (change : X → X) (xs : List X) (n : ℕ) (x : X) → x ≡ get_or xs n x →
    x ≡ change x → updated change xs n ≡ xs
updated-kept change [] n x at same = refl
updated-kept change (y ∷ ys) zero x at same = cc
updated-kept change (y ∷ ys) (suc n) x at same = ap (λ rest. y ∷ rest) (updated-kept change ys n x at same)
