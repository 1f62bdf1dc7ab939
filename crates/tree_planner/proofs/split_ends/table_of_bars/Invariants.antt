use Rattle.tree_planner.proofs.Barred.{AreMarked}
use Rattle.tree_planner.proofs.split_ends.table_of_bars.Given as goal

abbrev pub invariant-loop-worker : goal.invariant-loop-worker
invariant-loop-worker l = AreMarked l.problem l.workers l.worker-index l.bars
