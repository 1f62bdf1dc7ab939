-- The event that an entry stands for.
use Rattle.std.specs.Prelude.{ℕ, ◌≡◌, ◌+◌, ◌<◌, ◌≤◌, Bool, true, false, List, [], length, slice_index_or}
use Rattle.master_state.specs.declared.events.Event.{Event}
use Rattle.master_state.specs.declared.events.Event.TheVariants as event
use Rattle.compact_lists.specs.declared.entries.Totals.{Totals}
use Rattle.compact_lists.specs.declared.entries.Entry.{Entry}
use Rattle.compact_lists.specs.declared.entries.Entry.TheVariants.{Ahead, Wave, MapDone, MapFailed, Withdraw, Die}
use Rattle.compact_lists.specs.declared.entries.Entry.TheVariants.{Join, Add, Lose, Sweep, ReduceStart, PartDone}
use Rattle.compact_lists.specs.declared.entries.Entry.TheVariants.{PartFailed, Backup}

-- the event of a wave with these totals
abbrev pub wave_of : ℕ → Totals → Event
wave_of first totals = event.Wave first totals.count totals.cost

-- that of the heads of a plan ahead with these totals
abbrev pub ahead_of : ℕ → Totals → Event
ahead_of first totals = event.Ahead first totals.count totals.cost

abbrev pub no_totals : Totals
no_totals = record { count = 0; cost = 0 }

-- an entry's event, where sets of joins and totals of starts stand in these lists
abbrev pub event_of : List (List ℕ) → List Totals → Entry → Event
event_of sets totals (Wave first place) = wave_of first (slice_index_or totals place no_totals)
event_of sets totals (Ahead first place) = ahead_of first (slice_index_or totals place no_totals)
event_of sets totals (MapDone a) = event.MapDone a
event_of sets totals (MapFailed a) = event.MapFailed a
event_of sets totals (Withdraw a) = event.Withdraw a
event_of sets totals (Die w) = event.Die w
event_of sets totals (Join w place) = event.Join w (slice_index_or sets place [])
event_of sets totals (Add s w) = event.Add s w
event_of sets totals (Lose s w) = event.Lose s w
event_of sets totals (Sweep place) = event.Sweep place
event_of sets totals (ReduceStart a part w) = event.ReduceStart a part w
event_of sets totals (PartDone a) = event.PartDone a
event_of sets totals (PartFailed a) = event.PartFailed a
event_of sets totals (Backup w a s) = event.Backup a s w

-- what it names is there, of so many sets and totals
abbrev pub IsWithin : ℕ → ℕ → Entry → Type 0
IsWithin sets totals (Wave first place) = place < totals
IsWithin sets totals (Ahead first place) = place < totals
IsWithin sets totals (Join w place) = place < sets
IsWithin sets totals entry = Unit {0}

-- it names nothing
abbrev pub is_whole : Entry → Bool
is_whole (Wave first place) = false
is_whole (Ahead first place) = false
is_whole (Join w place) = false
is_whole entry = true

-- an event of a wave, of the heads of a plan ahead or of a join, whose entry names its totals or its set
abbrev pub is_named : Event → Bool
is_named (event.Wave first count cost) = true
is_named (event.Ahead first count cost) = true
is_named (event.Join w set) = true
is_named other = false

-- the second list has the elements of the first, and at most one more
pub record GoesOn {X : Type 0} (old new : List X) : Type 0 where
  pub no_less : length old ≤ length new
  pub one_more : length new ≤ length old + 1
  pub same : (i : ℕ) (d : X) → i < length old → slice_index_or new i d ≡ slice_index_or old i d
