use Rattle.tree_planner.proofs.Covered.{IsRestTaken}
use Rattle.tree_planner.specs.Searching.{IsOutBy}
use Rattle.tree_planner.proofs.over.over_rest.Given as goal

abbrev pub invariant-loop-worker : goal.invariant-loop-worker
invariant-loop-worker l = IsRestTaken l.ground l.fn.search l.search l.leaving (IsOutBy l.ground l.ends) l.top l.level
    l.workers l.worker-index
