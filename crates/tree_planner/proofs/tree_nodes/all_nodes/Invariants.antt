use Rattle.std.proofs.Common.{length}
use Rattle.tree_planner.proofs.Listed.{IsListed}
use Rattle.tree_planner.proofs.tree_nodes.all_nodes.Given as goal

abbrev pub invariant-loop-c : goal.invariant-loop-c
invariant-loop-c l = IsListed l.tree l.nodes.items l.c 0 0

abbrev pub invariant-loop-r : goal.invariant-loop-r
invariant-loop-r l = IsListed l.tree l.nodes.items l.tree.centres l.r 0

abbrev pub invariant-loop-w : goal.invariant-loop-w
invariant-loop-w l = IsListed l.tree l.nodes.items l.tree.centres (length l.tree.centre_of) l.w
