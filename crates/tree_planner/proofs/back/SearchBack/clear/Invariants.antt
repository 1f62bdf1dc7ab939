use Rattle.std.proofs.Common.{length}
use Rattle.tree_planner.specs.SearchingBack.{far_at, order_at, HasTables}
use Rattle.tree_planner.proofs.Rowed.{IsLeft}
use Rattle.tree_planner.proofs.back.SearchBack.clear.Given as goal

abbrev pub invariant-loop-node : goal.invariant-loop-node
invariant-loop-node l = record {
  tables : HasTables l.tree l.self;
  left : IsLeft l.tree (far_at l.self) (order_at l.self) l.self.reached.items;
}

abbrev pub decreases-loop-node : goal.decreases-loop-node
decreases-loop-node l = length l.self.reached.items
