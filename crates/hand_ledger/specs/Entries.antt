-- The entries of a hand, from a list of places and a list of events.
use Rattle.std.specs.Prelude.{ℕ, List, [], ◌∷◌}
use Rattle.master_state.specs.declared.events.Event.{Event}
use Rattle.hand_ledger.specs.declared.entries.Entry.{Entry}

-- the entries, the first one first, and how many there is room for
pub record EntriesValue : Type 0 where
  pub items : List Entry
  pub room : ℕ

-- each place with its event
abbrev pub entries_from : List ℕ → List Event → List Entry
entries_from [] events = []
entries_from (place ∷ places) [] = []
entries_from (place ∷ places) (event ∷ events) =
    record { place = place; event = event } ∷ entries_from places events
