use Rattle.tree_planner.specs.Going.{IsHeldBack}
use Rattle.tree_planner.proofs.going.hold_back.Given as goal

abbrev pub invariant-loop-w : goal.invariant-loop-w
invariant-loop-w l = IsHeldBack l.fn.next l.next
