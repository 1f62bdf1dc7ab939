use Rattle.std.proofs.Common.{◌≡◌, ℕ, ◌<◌, ◌≤◌, length}
use Rattle.tree_flow.specs.declared.nodes.End.{End}
use Rattle.tree_flow.specs.declared.nodes.Place.TheVariants.{Stands}
use Rattle.tree_flow.specs.State.{place_of}
use Rattle.tree_planner.specs.Listing.{AreLists, HasListed}
use Rattle.tree_planner.specs.View.{state_of}
use Rattle.tree_planner.proofs.follow.list_all.Given as goal

abbrev pub invariant-loop-s : goal.invariant-loop-s
invariant-loop-s l = record {
  rest : l.tables ≡ record l.fn.tables { standing = l.tables.standing };
  lists : AreLists l.problem.tree (length l.problem.splits) l.tables.standing;
  few : l.tables.standing.used ≤ l.s;
  listed : (t : ℕ) (e : End) → t < l.s → place_of (state_of l.fn.tables) t ≡ Stands e
      → HasListed l.tables.standing e.node t;
}
