use Rattle.std.proofs.Common.{◌≡◌, None, drop, length, replicate}
use Rattle.tree_planner.proofs.Paired.{filled}
use Rattle.tree_planner.proofs.hand_down.plan_of.Given as goal

abbrev pub invariant-loop-pair : goal.invariant-loop-pair
invariant-loop-pair l = record {
  filled : filled l.plan.starts (drop l.pair-index l.pairs)
      ≡ filled (replicate (length l.problem.splits) None) l.pairs;
  size : length l.plan.starts ≡ length l.problem.splits;
  workers : l.plan.workers ≡ length l.problem.workers;
}
