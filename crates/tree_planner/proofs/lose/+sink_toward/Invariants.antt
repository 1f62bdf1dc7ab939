use Rattle.tree_planner.proofs.Handed.{height}
use Rattle.tree_planner.proofs.lose.+sink_toward.Given as goal

abbrev pub decreases-sink_toward : goal.decreases-sink_toward
decreases-sink_toward l = height l.node
