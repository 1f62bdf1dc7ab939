-- What the past of a job tells of its copies.
use Rattle.std.specs.Prelude.{ℕ, ◌≡◌, ◌≤◌, ◌++◌, List, length}
use Rattle.block_map.specs.Copies.{all_copies, holdings}
use Rattle.master_state.specs.declared.events.Event.{Event}
use Rattle.master_state.specs.States.{Setup, State, IsWhole}
use Rattle.master_state.specs.Steps.{IsLegal}
use Rattle.report_lines.specs.Past.{IsPast, copies_at, past_of}

-- each event of a legal history comes when it may
abbrev pub LegalHistoriesArePasts : Type 0
LegalHistoriesArePasts =
    (setup : Setup) (target : ℕ) (history : List Event) (s : State) → IsWhole setup.cluster →
    IsLegal setup history s → IsPast (past_of setup target history s.sweeps)

-- after all events a past tells the copies of the state to which these events lead
abbrev pub PastsTellTheCopies : Type 0
PastsTellTheCopies =
    (setup : Setup) (target : ℕ) (history : List Event) (s : State) → IsLegal setup history s →
    copies_at (past_of setup target history s.sweeps) (length history)
    ≡ all_copies (holdings s.workers setup.cluster.tree s.holders target)

-- what was told stays so, whatever comes later
abbrev pub LaterPastsTellTheSame : Type 0
LaterPastsTellTheSame =
    (setup : Setup) (target : ℕ) (history later : List Event) (s : State) (more : List (List ℕ)) (n : ℕ) →
    IsLegal setup history s → n ≤ length history →
    copies_at (past_of setup target (history ++ later) (s.sweeps ++ more)) n
    ≡ copies_at (past_of setup target history s.sweeps) n
