-- What is known of an engine from outside.
use Rattle.std.specs.Prelude.{ℕ, ◌≢◌, ◌<◌, Bool, length, IsTrue}
use Rattle.wave_problem.specs.Wave.{Wave}
use Rattle.tree_planner.specs.declared.tables.Tables.{Tables}
use Rattle.tree_flow.specs.declared.nodes.Place.TheVariants.{Unshipped}
use Rattle.tree_flow.specs.State.{State, place_of}
use Rattle.tree_planner.specs.View.{state_of}

-- a wave, and the tables of the state of its splits
pub record Shown : Type 0 where
  pub wave : Wave
  pub tables : Tables

abbrev pub state_in : Shown → State
state_in shown = state_of shown.tables

-- if so, each split is shipped, or waits
abbrev pub AreShippedIf : Bool → Wave → Tables → Type 0
AreShippedIf settled wave t = IsTrue settled → (s : ℕ) → s < length wave.splits
    → place_of (state_of t) s ≢ Unshipped
