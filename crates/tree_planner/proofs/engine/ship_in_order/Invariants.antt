use Rattle.std.proofs.Common.{◌≡◌, length}
use Rattle.tree_planner.specs.Engine.{IsHeld}
use Rattle.tree_planner.specs.Lows.{AreLow}
use Rattle.tree_planner.specs.Searching.{IsBlank}
use Rattle.tree_planner.specs.View.{state_of}
use Rattle.tree_planner.proofs.engine.ship_in_order.Given as goal

abbrev pub invariant-loop-split : goal.invariant-loop-split
invariant-loop-split l = record {
  held : IsHeld l.problem l.tables;
  terms : (state_of l.tables).terms ≡ (state_of l.fn.tables).terms;
  blank : IsBlank l.problem.tree (length l.fixed.nodes.items) l.search;
  low : AreLow l.problem (state_of l.tables) l.search.lows;
}
