use Rattle.tree_flow.specs.Table.{IsOver}
use Rattle.tree_planner.specs.View.{state_of}
use Rattle.tree_planner.proofs.Starts.{AreFirstHanded}
use Rattle.tree_planner.proofs.hand_down.all_starts.Given as goal

abbrev pub invariant-loop-split : goal.invariant-loop-split
invariant-loop-split l = record {
  over : IsOver l.problem.tree l.left;
  handed : AreFirstHanded l.problem (state_of l.tables) l.left l.split-items l.split-index l.pairs.items;
}
