use Rattle.std.proofs.Common.{◌*◌, ◌≤◌}
use Rattle.master_core.proofs.kept_plan.are_few_back.Given as goal

-- at most 255 slots of each worker
abbrev pub invariant-loop-w : goal.invariant-loop-w
invariant-loop-w l = l.back ≤ 255 * l.w
