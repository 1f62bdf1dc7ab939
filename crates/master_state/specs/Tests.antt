-- What is asked of a state: which attempts run, and where.
use Rattle.std.specs.Prelude.{ℕ, ◌==◌, Bool, true, false, List, [], ◌∷◌, ◌++◌, flat_map, Some, None}
use Rattle.std.specs.Prelude.{slice_index_or}
use Rattle.std.specs.List.{list_any, list_all, position_or_len}
use Rattle.worker_table.specs.Workers.{has_free_slot}
use Rattle.master_state.specs.declared.states.Attempt.{Attempt}
use Rattle.master_state.specs.declared.states.SplitState.{SplitState}
use Rattle.master_state.specs.declared.states.SplitState.TheVariants.{Pending, Running, Done}
use Rattle.master_state.specs.declared.states.PartState.{PartState}
use Rattle.master_state.specs.declared.states.PartState.TheVariants as part
use Rattle.master_state.specs.States.{State, next_attempt}

-- the attempt has the number a, or is on the worker w
abbrev pub is_numbered : ℕ → Attempt → Bool
is_numbered a attempt = attempt.number == a

abbrev pub is_on : ℕ → Attempt → Bool
is_on w attempt = attempt.worker == w

-- the attempts that a split runs, and those that a part runs
abbrev pub attempts_of : SplitState → List Attempt
attempts_of Pending = []
attempts_of (Running attempt None) = attempt ∷ []
attempts_of (Running attempt (Some other)) = attempt ∷ other ∷ []
attempts_of (Done attempt) = []

abbrev pub part_attempts : PartState → List Attempt
part_attempts (part.Running attempt) = attempt ∷ []
part_attempts state = []

-- a split that runs these attempts, two at most
abbrev pub running : List Attempt → SplitState
running [] = Pending
running (attempt ∷ []) = Running attempt None
running (attempt ∷ other ∷ more) = Running attempt (Some other)

-- all attempts that run
abbrev pub all_running : State → List Attempt
all_running s = flat_map attempts_of s.splits ++ flat_map part_attempts s.parts

-- the split, or the part, runs the attempt a
abbrev pub runs : ℕ → SplitState → Bool
runs a split = list_any (is_numbered a) (attempts_of split)

abbrev pub part_runs : ℕ → PartState → Bool
part_runs a state = list_any (is_numbered a) (part_attempts state)

abbrev pub is_pending : SplitState → Bool
is_pending Pending = true
is_pending split = false

abbrev pub is_done : SplitState → Bool
is_done (Done attempt) = true
is_done split = false

abbrev pub part_is_pending : PartState → Bool
part_is_pending part.Pending = true
part_is_pending state = false

abbrev pub part_is_done : PartState → Bool
part_is_done part.Done = true
part_is_done state = false

abbrev pub all_parts_done : State → Bool
all_parts_done s = list_all part_is_done s.parts

-- the split and the part of a number; one past the last is pending
abbrev pub split_at : State → ℕ → SplitState
split_at s split = slice_index_or s.splits split Pending

abbrev pub part_at : State → ℕ → PartState
part_at s r = slice_index_or s.parts r part.Pending

-- the split and the part that run the attempt a; past the last where none does
abbrev pub split_running : State → ℕ → ℕ
split_running s a = position_or_len (runs a) s.splits

abbrev pub part_running : State → ℕ → ℕ
part_running s a = position_or_len (part_runs a) s.parts

-- the lowest pending part, and the lowest live worker with a free slot; past the last where there is none
abbrev pub next_part : State → ℕ
next_part s = position_or_len part_is_pending s.parts

abbrev pub next_worker : State → ℕ
next_worker s = position_or_len has_free_slot s.workers.each

-- the next attempt, on the worker w
abbrev pub next_on : State → ℕ → Attempt
next_on s w = record { number = next_attempt s; worker = w }
