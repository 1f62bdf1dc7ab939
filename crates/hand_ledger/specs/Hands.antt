-- What a hand keeps of the calls of its thread, and what is kept of all hands.
use Rattle.std.specs.Prelude.{ℕ, ◌+◌, ◌*◌, ◌&&◌, ◌||◌, nat_le, nat_lt, max, min, Bool, true, false, List, [], ◌∷◌}
use Rattle.std.specs.Prelude.{◌++◌, if◌then◌else◌, length, Option, Some, None}
use Rattle.std.specs.List.{sum_by}
use Rattle.master_state.specs.declared.answers.Why.{Why}
use Rattle.master_state.specs.declared.answers.Why.TheVariants.{HistoryFull, StrangeHand}
use Rattle.master_state.specs.declared.events.Event.{Event}
use Rattle.master_state.specs.declared.events.Event.TheVariants.{Ahead, Wave, Sweep}
use Rattle.master_state.specs.declared.states.Limits.{Limits}
use Rattle.master_state.specs.declared.states.Start.{Start}

-- an accepted call: its place in the history and its event, with a sweep's count of each worker or the starts
-- of a wave or of a plan ahead
pub record Kept : Type 0 where
  pub place : ℕ
  pub event : Event
  pub counts : List (List ℕ)
  pub starts : List Start

abbrev pub kept : ℕ → Event → List (List ℕ) → List Start → Kept
kept place event counts starts = record { place = place; event = event; counts = counts; starts = starts }

-- a hand as its thread sees it
pub record HandValue : Type 0 where
  pub calls : List Kept  -- the accepted ones, the first one first
  pub workers : ℕ  -- of how many workers it keeps the counts of a sweep
  pub room : Limits
  pub strange : Bool  -- a call was answered that the hand is strange
  pub full : Bool  -- a call that the hand had room for was answered that no place is left

-- a hand without a call
abbrev pub new_hand : ℕ → Limits → HandValue
new_hand workers room = record {
  calls = [];
  workers = workers;
  room = room;
  strange = false;
  full = false;
}

-- all hands of a ledger: how many calls they keep together, and how many hands were made
pub record HandsValue : Type 0 where
  pub total : ℕ
  pub made : ℕ

-- how many counts, and how many starts, stand for an event
abbrev pub counts_in : Event → ℕ
counts_in (Sweep place) = 1
counts_in event = 0

abbrev pub starts_in : Event → ℕ
starts_in (Wave first count cost) = count
starts_in (Ahead first count cost) = count
starts_in event = 0

-- the counts of all calls
abbrev pub all_counts : List Kept → ℕ
all_counts calls = sum_by (λ call. length call.counts) calls

abbrev pub all_starts : List Kept → ℕ
all_starts calls = sum_by (λ call. length call.starts) calls

-- room for a call more, with so many counts and starts
abbrev pub has_room : HandValue → ℕ → ℕ → Bool
has_room hand counts starts =
    nat_lt (length hand.calls) hand.room.events
    && nat_le (all_counts hand.calls + counts) hand.room.sweeps
    && nat_le (all_starts hand.calls + starts) hand.room.attempts

-- room for twice as many events, for 64 at least, and for no more than the longest history has
abbrev pub grown : ℕ → ℕ
grown events = if nat_le 1048576 events then events else min 1048576 (max 64 (2 * events))

-- the hand with so much more room, where it had none for another event
abbrev pub with_place : HandValue → HandValue
with_place hand =
    if nat_lt (length hand.calls) hand.room.events then hand
    else record hand { room = record hand.room { events = grown hand.room.events } }

-- the hand with a call more
abbrev pub with_call : HandValue → Kept → HandValue
with_call hand call = record hand { calls = hand.calls ++ call ∷ [] }

-- the hand after a call that was ignored; the test says whether it had room for it
abbrev pub noted : HandValue → Bool → Why → HandValue
noted hand had_room StrangeHand = record hand { strange = true }
noted hand had_room HistoryFull = record hand { full = hand.full || had_room }
noted hand had_room why = hand

-- the event of the last call
abbrev pub last_event : List Kept → Option Event
last_event [] = None
last_event (call ∷ []) = Some call.event
last_event (call ∷ next ∷ calls) = last_event (next ∷ calls)

-- the place of the last call, 0 before the first
abbrev pub last_place : List Kept → ℕ
last_place [] = 0
last_place (call ∷ []) = call.place
last_place (call ∷ next ∷ calls) = last_place (next ∷ calls)
