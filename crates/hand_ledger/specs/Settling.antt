-- When a history is made of the calls of hands.
use Rattle.std.specs.Prelude.{ℕ, ◌≡◌, ◌<◌, Bool, true, false, All, ◌+◌, ◌-◌, ◌==◌, zero, suc, List, [], ◌∷◌}
use Rattle.std.specs.Prelude.{length, take, drop, filter, Option, None, Some, slice_get}
use Rattle.std.specs.List.{flat_map}
use Rattle.std.specs.Option.{option_map_or}
use Rattle.master_state.specs.declared.events.Event.{Event}
use Rattle.master_state.specs.declared.events.Event.TheVariants.{Ahead, Wave, Sweep}
use Rattle.master_state.specs.declared.states.Start.{Start}
use Rattle.hand_ledger.specs.Hands.{Kept, kept, HandValue}

-- what a master tells of the calls that it accepted
pub record LogValue : Type 0 where
  pub history : List Event
  pub starts : List Start
  pub sweeps : List (List ℕ)

-- the event at a place; places count from 1
abbrev pub event_at : List Event → ℕ → Option Event
event_at history zero = None
event_at history (suc k) = slice_get history k

-- the counts of a sweep, and the starts of a wave or of a plan ahead
abbrev pub counts_at : LogValue → Event → List (List ℕ)
counts_at log (Sweep place) = take 1 (drop (place - 1) log.sweeps)
counts_at log event = []

abbrev pub starts_at : LogValue → Event → List Start
starts_at log (Wave first count cost) = take count (drop (first - 1) log.starts)
starts_at log (Ahead first count cost) = take count (drop (first - 1) log.starts)
starts_at log event = []

-- the call at a place, as a hand keeps it; none past the last event
abbrev pub call_at : LogValue → ℕ → List Kept
call_at log place =
    option_map_or (λ event. kept place event (counts_at log event) (starts_at log event) ∷ [])
    (event_at log.history place) []

-- the calls of a list that stand at a place
abbrev pub at_place : ℕ → List Kept → List Kept
at_place place calls = filter (λ call. call.place == place) calls

-- the calls of all hands
abbrev pub all_calls : List HandValue → List Kept
all_calls hands = flat_map (λ hand. hand.calls) hands

-- What stands at the place stands in one hand alone, just so; past the last event, nothing in any hand.
abbrev pub IsInOneHand : LogValue → List HandValue → ℕ → Type 0
IsInOneHand log hands place = at_place place (all_calls hands) ≡ call_at log place

-- No call was answered that the hand is strange; and that no place is left was answered, while the hand had
-- room, only by a master that at last is short of some room.
pub record AreTrue (is_short : Bool) (hand : HandValue) : Type 0 where
  pub own : hand.strange ≡ false
  pub full : hand.full ≡ true → is_short ≡ true

-- the place is told, and the place after the last event asks for the notes of all hands too
pub record AgreesAt (log : LogValue) (is_short : Bool) (hands : List HandValue) (place : ℕ) : Type 0 where
  pub told : IsInOneHand log hands place
  pub notes : place ≡ length log.history + 1 → All (AreTrue is_short) hands

-- the lowest place that does not hold, if there is one
abbrev pub IsLowestTorn : LogValue → Bool → List HandValue → Option ℕ → Type 0
IsLowestTorn log is_short hands None = (place : ℕ) → AgreesAt log is_short hands place
IsLowestTorn log is_short hands (Some torn) =
    (AgreesAt log is_short hands torn → ⊥)
    × ((place : ℕ) → place < torn → AgreesAt log is_short hands place)

-- the last call stands in the history at its place
abbrev pub LastStands : List Event → List Kept → Type 0
LastStands history [] = Unit {0}
LastStands history (call ∷ []) = event_at history call.place ≡ Some call.event
LastStands history (call ∷ next ∷ calls) = LastStands history (next ∷ calls)
