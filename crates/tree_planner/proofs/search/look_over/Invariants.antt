use Rattle.std.proofs.Common.{◌≡◌, ℕ, ◌-◌, ◌<◌, ◌≤◌}
use Rattle.tree_planner.specs.Listing.{at_cell}
use Rattle.tree_planner.specs.Searching.{Improves, GoesAllOver, IsSearching}
use Rattle.tree_planner.proofs.search.look_over.Given as goal

abbrev pub invariant-loop-place : goal.invariant-loop-place
invariant-loop-place l = record {
  searching : IsSearching l.ground l.search;
  improves : Improves l.fn.search l.search;
  within : l.place ≤ l.ground.tables.now.standing.used;
  here : 0 < l.place → (at_cell l.ground.tables.now.standing.cells.items (l.place - 1)).node ≡ l.node;
  over : (k : ℕ) → l.place ≤ k → k < l.ground.tables.now.standing.used
      → (at_cell l.ground.tables.now.standing.cells.items k).node ≡ l.node
      → GoesAllOver l.ground l.search l.node (at_cell l.ground.tables.now.standing.cells.items k).split;
}

abbrev pub decreases-loop-place : goal.decreases-loop-place
decreases-loop-place l = l.place
