use Rattle.tree_planner.proofs.Gained.{none_held}
use Rattle.tree_planner.proofs.going.hold_back.Goals as goal

pub loop-w-init : goal.loop-w-init
loop-w-init c = none_held c.args.next.now c.limits.ensures.problem.slots
