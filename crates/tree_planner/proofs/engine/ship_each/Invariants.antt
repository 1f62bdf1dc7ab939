use Rattle.std.proofs.Common.{◌≡◌, ℕ, ◌<◌, length}
use Rattle.std.specs.Prelude.{◌≢◌}
use Rattle.tree_flow.specs.declared.nodes.Place.TheVariants.{Unshipped}
use Rattle.tree_flow.specs.State.{place_of}
use Rattle.tree_planner.specs.Engine.{IsHeld}
use Rattle.tree_planner.specs.Lows.{AreLow}
use Rattle.tree_planner.specs.Searching.{IsBlank}
use Rattle.tree_planner.specs.View.{state_of}
use Rattle.tree_planner.proofs.engine.ship_each.Given as goal

abbrev pub invariant-loop-s : goal.invariant-loop-s
invariant-loop-s l = record {
  held : IsHeld l.problem l.tables;
  terms : (state_of l.tables).terms ≡ (state_of l.fn.tables).terms;
  blank : IsBlank l.problem.tree (length l.fixed.nodes.items) l.search;
  low : AreLow l.problem (state_of l.tables) l.search.lows;
  shipped : (k : ℕ) → k < l.s → place_of (state_of l.tables) k ≢ Unshipped;
}
