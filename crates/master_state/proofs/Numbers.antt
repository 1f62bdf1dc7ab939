-- What the starts tell of the attempts that run.
use Rattle.std.proofs.Common.{◌≡◌, ◌≢◌, ℕ, zero, suc, ◌<◌, [], ◌∷◌, Bool, true, false, Some, None}
use Rattle.std.proofs.Common.{refl, sym, ap, ◌∙◌, arith, All, AllPairs}
use Rattle.std.specs.Option.{option_map_or}
use Rattle.std.proofs.lemmas.Bool.{true≢false}
use Rattle.std.proofs.lemmas.List.Kept.{AllPairs-cons}
use Rattle.std.specs.Prelude.{flat_map, slice_index_or}
use Rattle.std.proofs.lemmas.Option.{slice_get_within}
use Rattle.std.proofs.lemmas.List.Elements.{All-nil, All-cons, All-append}
use Rattle.master_state.specs.declared.states.Attempt.{Attempt}
use Rattle.master_state.specs.declared.states.Start.{Start}
use Rattle.master_state.specs.declared.states.Work.{Work}
use Rattle.master_state.specs.declared.states.Work.TheVariants as works
use Rattle.master_state.specs.declared.states.SplitState.{SplitState}
use Rattle.master_state.specs.declared.states.SplitState.TheVariants.{Pending, Running, Done}
use Rattle.master_state.specs.declared.states.PartState.{PartState}
use Rattle.master_state.specs.declared.states.PartState.TheVariants as part
use Rattle.master_state.specs.States.{State, start_of, next_attempt}
use Rattle.master_state.specs.Tests.{attempts_of, part_attempts, all_running, split_at, part_at}
use Rattle.master_state.specs.Tidy.{IsToldAs}
use Rattle.master_state.proofs.Lists.{All-flat_map, AllPairs-append, AllPairs-flat_map}
use Rattle.master_state.proofs.Places.{start_on, work_in, worker_in}

-- an attempt that was started has a number that was given
pub started_below : (s : State) (a : ℕ) (start : Start) → start_of s a ≡ Some start → a < next_attempt s
started_below s zero start e = omega arith
started_below s (suc a) start e = omega (arith, slice_get_within s.starts a start e)

pub given-told : (s : State) →
    ((split : ℕ) → All (IsToldAs s (works.Split split)) (attempts_of (split_at s split))) →
    ((r : ℕ) → All (IsToldAs s (works.Part r)) (part_attempts (part_at s r))) →
    All (λ attempt. attempt.number < next_attempt s) (all_running s)
given-told s told told_parts =
    All-append (λ attempt. attempt.number < next_attempt s) (flat_map attempts_of s.splits)
    (flat_map part_attempts s.parts)
    (All-flat_map (λ attempt. attempt.number < next_attempt s) attempts_of s.splits Pending
    (λ k l i d m. started_below s _ _ (told k i d m)))
    (All-flat_map (λ attempt. attempt.number < next_attempt s) part_attempts s.parts part.Pending
    (λ k l i d m. started_below s _ _ (told_parts k i d m)))

abbrev HaveTwoNumbers : Attempt → Attempt → Type 0
HaveTwoNumbers a b = a.number ≢ b.number

abbrev place_of : Work → ℕ
place_of (works.Split split) = split
place_of (works.Part r) = r

abbrev is_split : Work → Bool
is_split (works.Split split) = true
is_split (works.Part r) = false

-- attempts of one number were started for one work, on one worker
same_start : (s : State) (a b : Attempt) (work other : Work) → IsToldAs s work a → IsToldAs s other b →
    a.number ≡ b.number → Some (start_on work a.worker) ≡ Some (start_on other b.worker)
same_start s a b work other told_a told_b e = sym told_a ∙ ap (start_of s) e ∙ told_b

two_places : (s : State) (a b : Attempt) (work other : Work) → place_of work ≢ place_of other →
    IsToldAs s work a → IsToldAs s other b → HaveTwoNumbers a b
two_places s a b work other apart told_a told_b e = grind arith

of_one_split : (s : State) (split : ℕ) (state : SplitState) →
    All (IsToldAs s (works.Split split)) (attempts_of state) →
    ((a b : Attempt) → state ≡ Running a (Some b) → a.worker ≢ b.worker) →
    AllPairs HaveTwoNumbers (attempts_of state)
of_one_split s split Pending told apart = λ i j d below l. absurd (omega (arith, l))
of_one_split s split (Running a None) told apart = λ i j d below l. absurd (omega (arith, below, l))
of_one_split s split (Running a (Some b)) told apart =
    AllPairs-cons HaveTwoNumbers a (b ∷ [])
    (All-cons (HaveTwoNumbers a) b []
    (λ e. apart a b refl (ap worker_in (same_start s a b (works.Split split) (works.Split split) (told 0 a
    (omega arith))
    (told 1 a (omega arith)) e)))
    (All-nil (HaveTwoNumbers a)))
    (λ i j d below l. absurd (omega (arith, below, l)))
of_one_split s split (Done a) told apart = λ i j d below l. absurd (omega (arith, l))

of_one_part : (state : PartState) → AllPairs HaveTwoNumbers (part_attempts state)
of_one_part part.Pending = λ i j d below l. absurd (omega (arith, l))
of_one_part (part.Running a) = λ i j d below l. absurd (omega (arith, below, l))
of_one_part part.Done = λ i j d below l. absurd (omega (arith, l))

-- each attempt number runs at one place only
pub once-told : (s : State) →
    ((split : ℕ) → All (IsToldAs s (works.Split split)) (attempts_of (split_at s split))) →
    ((r : ℕ) → All (IsToldAs s (works.Part r)) (part_attempts (part_at s r))) →
    ((split : ℕ) (a b : Attempt) → split_at s split ≡ Running a (Some b) → a.worker ≢ b.worker) →
    AllPairs (λ a b. a.number ≢ b.number) (all_running s)
once-told s told told_parts apart =
    AllPairs-append HaveTwoNumbers (flat_map attempts_of s.splits) (flat_map part_attempts s.parts)
    (AllPairs-flat_map HaveTwoNumbers (λ k. IsToldAs s (works.Split k)) attempts_of s.splits Pending
    (λ p q a b differ. two_places s a b (works.Split p) (works.Split q) differ)
    (λ k l. told k) (λ k l. of_one_split s k (split_at s k) (told k) (apart k)))
    (AllPairs-flat_map HaveTwoNumbers (λ k. IsToldAs s (works.Part k)) part_attempts s.parts part.Pending
    (λ p q a b differ. two_places s a b (works.Part p) (works.Part q) differ)
    (λ k l. told_parts k) (λ k l. of_one_part (part_at s k)))
    (All-flat_map (λ a. All (HaveTwoNumbers a) (flat_map part_attempts s.parts)) attempts_of s.splits Pending
    (λ k l i d m. All-flat_map (HaveTwoNumbers (slice_index_or (attempts_of (split_at s k)) i d))
    part_attempts s.parts part.Pending
    (λ r n j e o. λ same. true≢false (ap (λ start. option_map_or is_split (work_in start) true)
    (same_start s (slice_index_or (attempts_of (split_at s k)) i d)
    (slice_index_or (part_attempts (part_at s r)) j e)
    (works.Split k) (works.Part r) (told k i d m) (told_parts r j e o) same)))))
