-- Where an attempt runs, and how it ends.
use Rattle.std.specs.Prelude.{ℕ, ◌≡◌, true, false}
use Rattle.worker_table.specs.Workers.{Workers, with_bar, with_slot_given}
use Rattle.master_state.specs.States.{State}
use Rattle.master_state.specs.Refusals.{Call, MapFailed, PartFailed, Withdraw, no_part_runs, no_split_runs}
use Rattle.master_tables.specs.Places.{RunsPart, RunsSplit}
use Rattle.master_core.specs.declared.attempts.End.{End}
use Rattle.master_core.specs.declared.attempts.End.TheVariants.{Failed, Withdrawn}
use Rattle.master_core.specs.declared.attempts.Found.{Found}
use Rattle.master_core.specs.declared.attempts.Found.TheVariants.{Split, Part, Nowhere}

-- the attempt a runs there and nowhere else
abbrev pub IsFound : State → ℕ → Found → Type 0
IsFound s a (Split run) =
    RunsSplit s a run.split run.worker × (no_split_runs s a ≡ false) × (no_part_runs s a ≡ true)
IsFound s a (Part run) =
    RunsPart s a run.part run.worker × (no_split_runs s a ≡ true) × (no_part_runs s a ≡ false)
IsFound s a Nowhere = (no_split_runs s a ≡ true) × (no_part_runs s a ≡ true)

-- the call by which the attempt a of a split ends so, and that of a part
abbrev pub split_end : End → ℕ → Call
split_end Failed a = MapFailed a
split_end Withdrawn a = Withdraw a

abbrev pub part_end : End → ℕ → Call
part_end Failed a = PartFailed a
part_end Withdrawn a = Withdraw a

-- the workers after the end of a split's attempt on w
abbrev pub freed_by : End → Workers → ℕ → ℕ → Workers
freed_by Failed t split w = with_bar (with_slot_given t w) split w
freed_by Withdrawn t split w = with_slot_given t w
