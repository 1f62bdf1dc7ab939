-- What a compact list is seen as.
use Rattle.std.specs.Prelude.{ℕ, Bool, true, false, List}
use Rattle.master_state.specs.declared.events.Event.{Event}
use Rattle.master_state.specs.declared.events.Event.TheVariants.{Join}

-- the events, the first one first, and how many it has room for
pub record EventsValue : Type 0 where
  pub items : List Event
  pub room : ℕ

-- the event is a join, whose set a list takes over
abbrev pub is_join : Event → Bool
is_join (Join w set) = true
is_join event = false

-- the counts of every sweep, the first one first, how many sweeps it has room for, and of how many workers
-- each sweep has a count
pub record CountsValue : Type 0 where
  pub items : List (List ℕ)
  pub room : ℕ
  pub workers : ℕ
