use Rattle.tree_planner.proofs.Handed.{height}
use Rattle.tree_planner.proofs.hand_down.+go_down.Given as goal

abbrev pub decreases-go_down : goal.decreases-go_down
decreases-go_down l = height l.node
