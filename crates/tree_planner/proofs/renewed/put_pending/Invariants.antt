use Rattle.tree_planner.proofs.Flagged.{IsPut}
use Rattle.tree_planner.proofs.renewed.put_pending.Given as goal

abbrev pub invariant-loop-s : goal.invariant-loop-s
invariant-loop-s l = IsPut l.fn.problem l.problem l.s l.pending
