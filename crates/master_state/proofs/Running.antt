-- What runs in a tidy state takes a slot of a worker of the cluster.
use Rattle.std.proofs.Common.{◌≡◌, ℕ, zero, suc, ◌<◌, length, Some, arith, inl, inr}
use Rattle.std.proofs.Common.{All, subst}
use Rattle.std.specs.Prelude.{flat_map}
use Rattle.std.proofs.lemmas.Bool.{eq-eqb, cases_lt}
use Rattle.std.proofs.lemmas.List.{get_or_past}
use Rattle.std.proofs.lemmas.List.Elements.{All-nil}
use Rattle.std.proofs.lemmas.List.Sums.{get_or-le-sum_by}
use Rattle.std.proofs.lemmas.Option.{slice_get_within, get_or_from_slice_get, none-some}
use Rattle.worker_table.specs.Workers.{Workers, taken_slots}
use Rattle.master_state.specs.declared.states.Attempt.{Attempt}
use Rattle.master_state.specs.declared.states.Start.{Start}
use Rattle.master_state.specs.declared.states.SplitState.TheVariants.{Pending}
use Rattle.master_state.specs.declared.states.PartState.TheVariants as part
use Rattle.master_state.specs.States.{Setup, State, start_of}
use Rattle.master_state.specs.Tests.{attempts_of, part_attempts, all_running, split_at, part_at}
use Rattle.master_state.specs.Tidy.{IsTidy, IsStartOf}
use Rattle.master_state.proofs.Lists.{All-left, All-right, All-of_flat_map}
use Rattle.master_state.proofs.Slots.{live-inside}

-- the attempt takes a slot of a worker in the table
pub record TakesSlot (workers : Workers) (attempt : Attempt) : Type 0 where
  pub known : attempt.worker < length workers.each
  pub taken : 0 < taken_slots workers attempt.worker

pub all_take_slots : (setup : Setup) (s : State) → IsTidy setup s → All (TakesSlot s.workers) (all_running s)
all_take_slots setup s tidy = grind (arith, eq-eqb, live-inside, get_or-le-sum_by)

-- so does each attempt of a split, and of a part
pub split_takes_slots : (setup : Setup) (s : State) (k : ℕ) → IsTidy setup s →
    All (TakesSlot s.workers) (attempts_of (split_at s k))
split_takes_slots setup s k tidy = elim (cases_lt k (length s.splits)) [
  | inl inside ↦ All-of_flat_map (TakesSlot s.workers) attempts_of s.splits k Pending inside
      (All-left (TakesSlot s.workers) (flat_map attempts_of s.splits) (flat_map part_attempts s.parts)
      (all_take_slots setup s tidy))
  | inr past ↦ rw (get_or_past s.splits k Pending past) (All-nil (TakesSlot s.workers))
]

pub part_takes_slot : (setup : Setup) (s : State) (r : ℕ) → IsTidy setup s →
    All (TakesSlot s.workers) (part_attempts (part_at s r))
part_takes_slot setup s r tidy = elim (cases_lt r (length s.parts)) [
  | inl inside ↦ All-of_flat_map (TakesSlot s.workers) part_attempts s.parts r part.Pending inside
      (All-right (TakesSlot s.workers) (flat_map attempts_of s.splits) (flat_map part_attempts s.parts)
      (all_take_slots setup s tidy))
  | inr past ↦ rw (get_or_past s.parts r part.Pending past) (All-nil (TakesSlot s.workers))
]

-- a start that is told is of the cluster
pub start_known : (setup : Setup) (s : State) (a : ℕ) (start : Start) → IsTidy setup s →
    start_of s a ≡ Some start →
    IsStartOf setup start
start_known setup s zero start tidy told = absurd (none-some start told)
start_known setup s (suc a) start tidy told =
    subst (IsStartOf setup) (get_or_from_slice_get s.starts a start start told)
    (tidy.known a start (slice_get_within s.starts a start told))
