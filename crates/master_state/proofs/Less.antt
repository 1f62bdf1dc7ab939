-- A state of which some attempts ended is tidy still.
use Rattle.std.proofs.Common.{◌≡◌, ℕ, ◌&&◌, ◌⊎◌, List, [], ◌∷◌, ◌++◌, length, cond, Bool, true, false}
use Rattle.std.proofs.Common.{not, Option, Some, None, refl, ap, ◌∙◌, inl, inr, All, Contains, subst}
use Rattle.std.specs.Prelude.{flat_map, filter, find, count_by, slice_index_or}
use Rattle.std.specs.Option.{option_map_or}
use Rattle.std.proofs.lemmas.Bool.{false≢true}
use Rattle.std.proofs.lemmas.List.Elements.{All-nil, All-filter, All-contains}
use Rattle.worker_table.specs.Workers.{Workers, is_live, taken_slots}
use Rattle.master_state.specs.declared.states.Attempt.{Attempt}
use Rattle.master_state.specs.declared.states.Work.TheVariants as works
use Rattle.master_state.specs.declared.states.SplitState.{SplitState}
use Rattle.master_state.specs.declared.states.SplitState.TheVariants.{Pending, Running, Done}
use Rattle.master_state.specs.declared.states.PartState.{PartState}
use Rattle.master_state.specs.declared.states.PartState.TheVariants as part
use Rattle.master_state.specs.States.{Setup, State}
use Rattle.master_state.specs.Tests.{is_numbered, is_on, attempts_of, part_attempts, running, is_done}
use Rattle.master_state.specs.Tests.{split_at, part_at}
use Rattle.master_state.specs.Changes.{without_attempts, part_without, done_by, part_done_by, after_death}
use Rattle.master_state.specs.Tidy.{IsTidy, IsToldAs, AreHolders}
use Rattle.master_state.proofs.Lists.{find-contains}
use Rattle.master_state.proofs.Slots.{IsFit}
use Rattle.master_state.proofs.Tidying.{tidy_made}

-- a split runs none but the attempts that it ran, and is done by one of them, or was done
pub record IsLess (old new : SplitState) : Type 1 where
  pub kept : (P : Attempt → Type 0) → All P (attempts_of old) → All P (attempts_of new)
  pub both : (a b : Attempt) → new ≡ Running a (Some b) → old ≡ Running a (Some b)
  pub done : (a : Attempt) → new ≡ Done a → (old ≡ Done a) ⊎ Contains (attempts_of old) a

abbrev pub IsPartLess : PartState → PartState → Type 1
IsPartLess old new = (P : Attempt → Type 0) → All P (part_attempts old) → All P (part_attempts new)

-- a state is tidy still after some of its attempts ended, and these are the rest
pub tidy_ended : (setup : Setup) (s : State) (workers : Workers) (lists : List (List ℕ))
    (splits : List SplitState)
    (parts : List PartState) (rest : List Attempt) → IsTidy setup s → IsFit setup workers →
    length lists ≡ length s.holders → All (AreHolders workers) lists →
    length splits ≡ length s.splits → length parts ≡ length s.parts →
    flat_map attempts_of splits ++ flat_map part_attempts parts ≡ rest →
    ((w : ℕ) → taken_slots workers w ≡ count_by (is_on w) rest) →
    All (λ attempt. is_live workers attempt.worker ≡ true) rest →
    ((k : ℕ) → IsLess (split_at s k) (slice_index_or splits k Pending)) →
    ((r : ℕ) → IsPartLess (part_at s r) (slice_index_or parts r part.Pending)) →
    IsTidy setup (record s { workers = workers; holders = lists; splits = splits; parts = parts })
tidy_ended setup s workers lists splits parts rest tidy fit same_lists held same_splits same_parts run taken
    live less part_less =
    tidy_made setup (record s { workers = workers; holders = lists; splits = splits; parts = parts }) fit
    (record {
      holders = same_lists ∙ tidy.holders;
      splits = same_splits ∙ tidy.splits;
      parts = same_parts ∙ tidy.parts;
      events = tidy.events;
      attempts = tidy.attempts;
      sweeps = tidy.sweeps;
      known = tidy.known;
    })
    held (λ w. rw run (taken w)) (rw run live)
    (record {
      apart = λ k a b e. tidy.apart k a b ((less k).both a b e);
      told = λ k. (less k).kept (IsToldAs s (works.Split k)) (tidy.told k);
      told_parts = λ r. part_less r (IsToldAs s (works.Part r)) (tidy.told_parts r);
      told_done = λ k a e. elim ((less k).done a e) [
        | inl was ↦ tidy.told_done k a was
        | inr ran ↦ All-contains (IsToldAs s (works.Split k)) (attempts_of (split_at s k)) a (tidy.told k)
            ran
      ];
    })

-- a split without some of its attempts
abbrev pub others : (Attempt → Bool) → Attempt → Bool
others test attempt = not (test attempt)

running_one : (p : Bool) (a : Attempt) → attempts_of (running (cond p (a ∷ []) [])) ≡ cond p (a ∷ []) []
running_one true a = refl
running_one false a = refl

running_two : (p q : Bool) (a b : Attempt) →
    attempts_of (running (cond p (a ∷ cond q (b ∷ []) []) (cond q (b ∷ []) []))) ≡ cond p
    (a ∷ cond q (b ∷ []) []) (cond q (b ∷ []) [])
running_two true true a b = refl
running_two true false a b = refl
running_two false true a b = refl
running_two false false a b = refl

pub attempts-without : (test : Attempt → Bool) (split : SplitState) →
    attempts_of (without_attempts test split) ≡ filter (others test) (attempts_of split)
attempts-without test Pending = refl
attempts-without test (Running a None) = running_one (not (test a)) a
attempts-without test (Running a (Some b)) = running_two (not (test a)) (not (test b)) a b
attempts-without test (Done a) = refl

part_one : (b : Bool) (other : PartState) (a : Attempt) → part_attempts other ≡ [] →
    part_attempts (cond b other (part.Running a)) ≡ cond (not b) (a ∷ []) []
part_one true other a none = none
part_one false other a none = refl

pub attempts-part_without : (test : Attempt → Bool) (state : PartState) →
    part_attempts (part_without test state) ≡ filter (others test) (part_attempts state)
attempts-part_without test part.Pending = refl
attempts-part_without test (part.Running a) = part_one (test a) part.Pending a refl
attempts-part_without test part.Done = refl

pub attempts-part_done_by : (a : ℕ) (state : PartState) →
    part_attempts (part_done_by a state) ≡ filter (others (is_numbered a)) (part_attempts state)
attempts-part_done_by a part.Pending = refl
attempts-part_done_by a (part.Running attempt) =
    part_one (is_numbered a attempt) part.Done attempt refl
attempts-part_done_by a part.Done = refl

pub part_less_filter : (test : Attempt → Bool) (old new : PartState) →
    part_attempts new ≡ filter (others test) (part_attempts old) → IsPartLess old new
part_less_filter test old new same P all = rw same (All-filter (others test) P (part_attempts old) all)

-- no list of attempts makes a split done, and two make it run both
never_done : (attempts : List Attempt) (a : Attempt) → running attempts ≡ Done a → ⊥
never_done [] a e = false≢true (ap is_done e)
never_done (x ∷ []) a e = false≢true (ap is_done e)
never_done (x ∷ y ∷ more) a e = false≢true (ap is_done e)

abbrev pub has_two : SplitState → Bool
has_two (Running a (Some b)) = true
has_two split = false

both_one : (p : Bool) (a c d : Attempt) → running (cond p (a ∷ []) []) ≡ Running c (Some d) → ⊥
both_one true a c d e = false≢true (ap has_two e)
both_one false a c d e = false≢true (ap has_two e)

both_two : (p q : Bool) (a b c d : Attempt) →
    running (cond p (a ∷ cond q (b ∷ []) []) (cond q (b ∷ []) [])) ≡ Running c (Some d) →
    Running a (Some b) ≡ Running c (Some d)
both_two true true a b c d e = e
both_two true false a b c d e = absurd (false≢true (ap has_two e))
both_two false true a b c d e = absurd (false≢true (ap has_two e))
both_two false false a b c d e = absurd (false≢true (ap has_two e))

both_without : (test : Attempt → Bool) (split : SplitState) (c d : Attempt) →
    without_attempts test split ≡ Running c (Some d) → split ≡ Running c (Some d)
both_without test Pending c d e = e
both_without test (Running a None) c d e = absurd (both_one (not (test a)) a c d e)
both_without test (Running a (Some b)) c d e = both_two (not (test a)) (not (test b)) a b c d e
both_without test (Done a) c d e = e

done_without : (test : Attempt → Bool) (split : SplitState) (a : Attempt) →
    without_attempts test split ≡ Done a → split ≡ Done a
done_without test Pending a e = e
done_without test (Running b None) a e = absurd (never_done (filter (others test) (b ∷ [])) a e)
done_without test (Running b (Some c)) a e = absurd (never_done (filter (others test) (b ∷ c ∷ [])) a e)
done_without test (Done b) a e = e

pub less_without : (test : Attempt → Bool) (split : SplitState) → IsLess split (without_attempts test split)
less_without test split = record {
  kept = λ P all. rw (attempts-without test split) (All-filter (others test) P (attempts_of split) all);
  both = both_without test split;
  done = λ a e. inl (done_without test split a e);
}

pub less_same : (split : SplitState) → IsLess split split
less_same split = record { kept = λ P all. all; both = λ a b e. e; done = λ a e. inl e }

-- a split that one of its attempts, if one was found, has done
abbrev doer : Attempt → SplitState → Attempt
doer d (Done a) = a
doer d split = d

less_found : (split : SplitState) (found : Option Attempt) →
    ((a : Attempt) → found ≡ Some a → Contains (attempts_of split) a) →
    IsLess split (option_map_or Done found split)
less_found split None there = less_same split
less_found split (Some a) there = record {
  kept = λ P all. All-nil P;
  both = λ b c e. absurd (false≢true (ap has_two e));
  done = λ b e. inr (subst (Contains (attempts_of split)) (ap (doer a) e) (there a refl));
}

pub less_done_by : (a : ℕ) (split : SplitState) → IsLess split (done_by a split)
less_done_by a split =
    less_found split (find (is_numbered a) (attempts_of split))
    (find-contains (is_numbered a) (attempts_of split))

-- a split after a death
less_lost : (lost : Bool) (a : Attempt) → IsLess (Done a) (cond lost Pending (Done a))
less_lost true a = record {
  kept = λ P all. all;
  both = λ b c e. absurd (false≢true (ap has_two e));
  done = λ b e. absurd (false≢true (ap is_done e));
}
less_lost false a = less_same (Done a)

pub less_death : (stays : Bool) (w : ℕ) (split : SplitState) → IsLess split (after_death stays w split)
less_death stays w Pending = less_without (is_on w) Pending
less_death stays w (Running a other) = less_without (is_on w) (Running a other)
less_death stays w (Done a) = less_lost (is_on w a && not stays) a

lost_none : (lost : Bool) (a : Attempt) → attempts_of (cond lost Pending (Done a)) ≡ []
lost_none true a = refl
lost_none false a = refl

pub attempts-death : (stays : Bool) (w : ℕ) (split : SplitState) →
    attempts_of (after_death stays w split) ≡ filter (others (is_on w)) (attempts_of split)
attempts-death stays w Pending = refl
attempts-death stays w (Running a other) = attempts-without (is_on w) (Running a other)
attempts-death stays w (Done a) = lost_none (is_on w a && not stays) a

pub without_first : (test : Attempt → Bool) (one other : Attempt) → test one ≡ true → test other ≡ false →
    without_attempts test (Running one (Some other)) ≡ Running other None
without_first test one other lost kept = rw (lost, kept) refl

pub without_second : (test : Attempt → Bool) (one other : Attempt) → test one ≡ false → test other ≡ true →
    without_attempts test (Running one (Some other)) ≡ Running one None
without_second test one other kept lost = rw (kept, lost) refl
