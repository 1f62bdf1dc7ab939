-- What a hand keeps, by its fields.
use Rattle.std.specs.Prelude.{ℕ, ◌≡◌, ◌≤◌, List, [], ◌∷◌, length, take, drop, All}
use Rattle.std.specs.List.{sum_by}
use Rattle.master_state.specs.declared.states.Limits.{Limits}
use Rattle.master_state.specs.declared.states.Start.{Start}
use Rattle.hand_ledger.specs.declared.entries.Entry.{Entry}
use Rattle.hand_ledger.specs.Hands.{Kept, kept, counts_in, starts_in}

-- the calls of a list of entries, whose counts and starts stand one after another in two lists
abbrev pub calls_of : List Entry → List (List ℕ) → List Start → List Kept
calls_of [] counts starts = []
calls_of (entry ∷ entries) counts starts =
    kept entry.place entry.event
    (take (counts_in entry.event) counts) (take (starts_in entry.event) starts)
    ∷ calls_of entries (drop (counts_in entry.event) counts) (drop (starts_in entry.event) starts)

-- how many counts and starts they take
abbrev pub counts_taken : List Entry → ℕ
counts_taken entries = sum_by (λ entry. counts_in entry.event) entries

abbrev pub starts_taken : List Entry → ℕ
starts_taken entries = sum_by (λ entry. starts_in entry.event) entries

-- a place that a history may have
abbrev pub IsPlace : ℕ → Type 0
IsPlace place = place ≤ 1048576

-- the lists take one another's elements, no more and no less, and are within the room
pub record AreKept (entries : List Entry) (counts : List (List ℕ)) (starts : List Start) (room : Limits)
    : Type 0 where
  pub places : All (λ entry. IsPlace entry.place) entries
  pub counts_are : counts_taken entries ≡ length counts
  pub starts_are : starts_taken entries ≡ length starts
  pub few_events : length entries ≤ room.events
  pub few_counts : length counts ≤ room.sweeps
  pub few_starts : length starts ≤ room.attempts
