use Rattle.tree_planner.specs.View.{state_of}
use Rattle.tree_planner.proofs.Stood.{AreStandingBelow}
use Rattle.tree_planner.proofs.hand_down.standing_of_all.Given as goal

abbrev pub invariant-loop-s : goal.invariant-loop-s
invariant-loop-s l = AreStandingBelow (state_of l.tables) l.s l.splits.items
