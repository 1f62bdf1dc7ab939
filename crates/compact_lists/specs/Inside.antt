-- What a list of events keeps, by its fields.
use Rattle.std.specs.Prelude.{◌≤◌, All, length, map, vec_capacity}
use Rattle.compact_lists.specs.declared.events.EventList.TheInside.{Inside}
use Rattle.compact_lists.specs.Entries.{event_of, IsWithin}
use Rattle.compact_lists.specs.Lists.{EventsValue}

abbrev pub events_of : Inside → EventsValue
events_of l = record {
  items = map (event_of l.sets.items l.totals.items) l.entries.items;
  room = l.room;
}

-- each entry names a set or totals that are there; no list is longer than that of the entries, and each has
-- the room
pub record IsEventList (l : Inside) : Type 0 where
  pub within : All (IsWithin (length l.sets.items) (length l.totals.items)) l.entries.items
  pub few : length l.entries.items ≤ l.room
  pub few_sets : length l.sets.items ≤ length l.entries.items
  pub few_totals : length l.totals.items ≤ length l.entries.items
  pub events : l.room ≤ vec_capacity l.entries
  pub sets : l.room ≤ vec_capacity l.sets
  pub totals : l.room ≤ vec_capacity l.totals
