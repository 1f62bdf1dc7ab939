use Rattle.std.proofs.Common.{◌<◌, length}
use Rattle.tree_planner.proofs.copies.Copies.first_waiting.Given as goal

abbrev pub invariant-loop-k : goal.invariant-loop-k
invariant-loop-k l = l.worker < length l.self.heads.items
