-- The opening state of a whole cluster is tidy.
use Rattle.std.proofs.Common.{◌≡◌, ℕ, zero, suc, ◌<◌, List, [], ◌∷◌, length, map, replicate, true, Option}
use Rattle.std.proofs.Common.{Some, refl, sym, ap, ◌∙◌, arith}
use Rattle.std.specs.Prelude.{flat_map, count_by, slice_index_or}
use Rattle.std.proofs.lemmas.Bool.{false≢true}
use Rattle.std.proofs.lemmas.List.{length-map, length-replicate}
use Rattle.std.proofs.lemmas.List.Elements.{All-nil, All-map}
use Rattle.worker_table.specs.Workers.{fresh, opening_workers, is_live, taken_slots, IsWithin}
use Rattle.wave_problem.specs.Wave.{Split, IsHeldWell, IsSmall}
use Rattle.master_state.specs.declared.states.Attempt.{Attempt}
use Rattle.master_state.specs.declared.states.SplitState.TheVariants.{Pending, Running, Done}
use Rattle.master_state.specs.declared.states.PartState.TheVariants as part
use Rattle.master_state.specs.States.{Setup, IsWhole, opening}
use Rattle.master_state.specs.Tests.{is_on, attempts_of, part_attempts, all_running, is_pending}
use Rattle.master_state.specs.Tidy.{IsTidy, IsStartOf, AreHolders}

slots_fresh : (slots : List ℕ) → map (λ worker. worker.slots) (map fresh slots) ≡ slots
slots_fresh [] = refl
slots_fresh (n ∷ slots) = ap (λ ns. n ∷ ns) (slots_fresh slots)

live_fresh : (slots : List ℕ) (splits limit room w : ℕ) → w < length slots →
    is_live (opening_workers slots splits limit room) w ≡ true
live_fresh [] splits limit room w inside = absurd (omega (arith, inside))
live_fresh (n ∷ slots) splits limit room zero inside = refl
live_fresh (n ∷ slots) splits limit room (suc w) inside =
    live_fresh slots splits limit room w (omega (arith, inside))

free_fresh : (slots : List ℕ) (splits limit room w : ℕ)
    → taken_slots (opening_workers slots splits limit room) w ≡ 0
free_fresh [] splits limit room w = refl
free_fresh (n ∷ slots) splits limit room zero = refl
free_fresh (n ∷ slots) splits limit room (suc w) = free_fresh slots splits limit room w

none_split : (splits : List Split) → flat_map attempts_of (map (λ _. Pending) splits) ≡ []
none_split [] = refl
none_split (split ∷ splits) = none_split splits

none_part : (n : ℕ) → flat_map part_attempts (replicate n part.Pending) ≡ []
none_part zero = refl
none_part (suc n) = none_part n

none_runs : (setup : Setup) → all_running (opening setup) ≡ []
none_runs setup = rw (none_split setup.cluster.splits, none_part setup.cluster.parts) refl

pending_at : (splits : List Split) (n : ℕ) → slice_index_or (map (λ _. Pending) splits) n Pending ≡ Pending
pending_at [] n = refl
pending_at (split ∷ splits) zero = refl
pending_at (split ∷ splits) (suc n) = pending_at splits n

pub pending_part : (count n : ℕ) → slice_index_or (replicate count part.Pending) n part.Pending ≡ part.Pending
pending_part zero n = refl
pending_part (suc count) zero = refl
pending_part (suc count) (suc n) = pending_part count n

is_pending_not_running : (a : Attempt) (other : Option Attempt) → Pending ≡ Running a other → ⊥
is_pending_not_running a other e = false≢true (sym (ap is_pending e))

is_pending_not_done : (a : Attempt) → Pending ≡ Done a → ⊥
is_pending_not_done a e = false≢true (sym (ap is_pending e))

holders_at : (slots : List ℕ) (splits limit room : ℕ) (split : Split) → IsSmall split
    → IsHeldWell (length slots) split → AreHolders (opening_workers slots splits limit room) split.holders
holders_at slots splits limit room split small held = search (arith, live_fresh)

pub tidy_opening : (setup : Setup) → IsWhole setup.cluster → IsTidy setup (opening setup)
tidy_opening setup whole = record {
  slots = slots_fresh setup.cluster.slots;
  limit = refl;
  bars = length-replicate (length setup.cluster.splits) [];
  holders = length-map setup.cluster.splits _;
  splits = length-map setup.cluster.splits _;
  parts = length-replicate setup.cluster.parts part.Pending;
  events = omega arith;
  attempts = omega arith;
  sweeps = omega arith;
  known = All-nil (IsStartOf setup);
  held = All-map (AreHolders (opening setup).workers) (λ (split : Split). split.holders) setup.cluster.splits
      (λ k d l. holders_at setup.cluster.slots (length setup.cluster.splits) setup.cluster.silence
      setup.limits.events (slice_index_or setup.cluster.splits k d) (whole.small k d l) (whole.held k d l));
  within = All-map (IsWithin setup.cluster.silence) fresh setup.cluster.slots
      (λ k d l. record { slots = whole.slots k d l; taken = omega arith; silence = omega arith });
  taken = λ w. free_fresh setup.cluster.slots (length setup.cluster.splits) setup.cluster.silence
      setup.limits.events w
      ∙ sym (ap (count_by (is_on w)) (none_runs setup));
  live = rw (none_runs setup) (All-nil _);
  given = rw (none_runs setup) (All-nil _);
  once = rw (none_runs setup) (λ i j d _ l. absurd (omega (arith, l)));
  apart = λ split a b e. absurd
      (is_pending_not_running a (Some b) (sym (pending_at setup.cluster.splits split) ∙ e));
  told = λ split. rw (pending_at setup.cluster.splits split) (All-nil _);
  told_parts = λ r. rw (pending_part setup.cluster.parts r) (All-nil _);
  told_done = λ split a e. absurd (is_pending_not_done a (sym (pending_at setup.cluster.splits split) ∙ e));
}
