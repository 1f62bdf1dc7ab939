use Rattle.tree_planner.specs.Searching.{AreFloorsNew, IsSearching}
use Rattle.tree_planner.proofs.Floors.{below}
use Rattle.tree_planner.proofs.nearest.nearest.Given as goal

abbrev pub invariant-loop-low : goal.invariant-loop-low
invariant-loop-low l = record {
  rest : AreFloorsNew l.fn.search l.search;
  searching : IsSearching l.ground l.search;
}

abbrev pub decreases-loop-low : goal.decreases-loop-low
decreases-loop-low l = below l.search.bound l.search.reached.floors.items
