use Rattle.tree_planner.proofs.Handed.{height}
use Rattle.tree_planner.proofs.refill.+sink.Given as goal

abbrev pub decreases-sink : goal.decreases-sink
decreases-sink l = height l.node
