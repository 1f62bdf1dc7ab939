-- What has become of a split, as callers see it.
use Rattle.std.specs.Prelude.{◌&&◌, Bool, not, if◌then◌else◌, [], ◌∷◌, ◌++◌}
use Rattle.master_state.specs.declared.states.Attempt.{Attempt}
use Rattle.master_state.specs.declared.states.SplitState.{SplitState}
use Rattle.master_state.specs.declared.states.SplitState.TheVariants as states
use Rattle.master_state.specs.Tests.{attempts_of, running}
use Rattle.master_state.specs.Changes.{without_attempts}
use Rattle.master_tables.specs.declared.entries.SplitEntry.{SplitEntry}
use Rattle.master_tables.specs.declared.entries.SplitEntry.TheVariants.{Pending, Running, Done}

-- an entry without the result that it keeps
abbrev pub shown_as : SplitEntry → SplitState
shown_as Pending = states.Pending
shown_as (Running attempt other) = states.Running attempt other
shown_as (Done attempt result) = states.Done attempt

-- an entry that keeps no result, of a split that is not done
abbrev pub entry_of : SplitState → SplitEntry
entry_of (states.Running attempt other) = Running attempt other
entry_of state = Pending

-- an entry after the deaths of those whose attempts the test names: what they had done is dropped too,
-- unless it stays
abbrev pub entry_after_death : Bool → (Attempt → Bool) → SplitEntry → SplitEntry
entry_after_death stays test Pending = Pending
entry_after_death stays test (Running attempt other) =
    entry_of (without_attempts test (states.Running attempt other))
entry_after_death stays test (Done attempt result) =
    if test attempt && not stays then Pending else Done attempt result

-- an entry without the attempts that the test names
abbrev pub entry_without : (Attempt → Bool) → SplitEntry → SplitEntry
entry_without test Pending = Pending
entry_without test (Running attempt other) = entry_of (without_attempts test (states.Running attempt other))
entry_without test (Done attempt result) = Done attempt result

-- an entry that runs the attempt beside what it ran, two attempts at most
abbrev pub entry_with : Attempt → SplitEntry → SplitEntry
entry_with attempt entry = entry_of (running (attempts_of (shown_as entry) ++ attempt ∷ []))
