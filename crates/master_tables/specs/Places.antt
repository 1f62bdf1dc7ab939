-- Where an attempt runs.
use Rattle.std.specs.Prelude.{ℕ, ◌≡◌, true, Option, Some, None}
use Rattle.master_state.specs.declared.states.Work.{Work}
use Rattle.master_state.specs.declared.states.Work.TheVariants as works
use Rattle.master_state.specs.States.{State, start_of}
use Rattle.master_state.specs.Tests.{runs, part_runs, split_at, part_at}

-- the split runs the attempt a, which was started for it on w
pub record RunsSplit (s : State) (a split w : ℕ) : Type 0 where
  pub start : start_of s a ≡ Some (record { work = works.Split split; worker = w })
  pub runs : runs a (split_at s split) ≡ true

-- so does the part
pub record RunsPart (s : State) (a r w : ℕ) : Type 0 where
  pub start : start_of s a ≡ Some (record { work = works.Part r; worker = w })
  pub runs : part_runs a (part_at s r) ≡ true

-- the split, or the part, of a work
abbrev pub split_of : Work → Option ℕ
split_of (works.Split split) = Some split
split_of (works.Part r) = None

abbrev pub part_of : Work → Option ℕ
part_of (works.Split split) = None
part_of (works.Part r) = Some r
