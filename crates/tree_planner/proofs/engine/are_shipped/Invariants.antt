use Rattle.std.proofs.Common.{ℕ, ◌<◌}
use Rattle.std.specs.Prelude.{◌≢◌}
use Rattle.tree_flow.specs.declared.nodes.Place.TheVariants.{Unshipped}
use Rattle.tree_flow.specs.State.{place_of}
use Rattle.tree_planner.specs.View.{state_of}
use Rattle.tree_planner.proofs.engine.are_shipped.Given as goal

abbrev pub invariant-loop-s : goal.invariant-loop-s
invariant-loop-s l = (k : ℕ) → k < l.s → place_of (state_of l.tables) k ≢ Unshipped
