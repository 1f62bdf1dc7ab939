use Rattle.tree_planner.proofs.Floors.{IsLowAmong}
use Rattle.tree_planner.proofs.reached.Reached.lowest_block.Given as goal

abbrev pub invariant-loop-k : goal.invariant-loop-k
invariant-loop-k l = record { among : IsLowAmong l.self.floors.items l.k l.low l.below }
