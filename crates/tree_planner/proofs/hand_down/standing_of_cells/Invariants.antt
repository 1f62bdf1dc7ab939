use Rattle.std.proofs.Common.{ℕ, ◌<◌, All, Contains}
use Rattle.tree_planner.specs.Handing.{HasStand}
use Rattle.tree_planner.specs.Listing.{at_cell}
use Rattle.tree_planner.specs.View.{state_of}
use Rattle.tree_planner.proofs.hand_down.standing_of_cells.Given as goal

abbrev pub invariant-loop-k : goal.invariant-loop-k
invariant-loop-k l = record {
  each : All (HasStand (state_of l.tables)) l.splits.items;
  all : (j : ℕ) → j < l.k → HasStand (state_of l.tables) (at_cell l.tables.standing.cells.items j).split
      → Contains l.splits.items (at_cell l.tables.standing.cells.items j).split;
}
