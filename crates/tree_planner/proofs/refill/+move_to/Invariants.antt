use Rattle.tree_planner.specs.SearchingBack.{order_at}
use Rattle.tree_planner.proofs.refill.+move_to.Given as goal

abbrev pub decreases-move_to : goal.decreases-move_to
decreases-move_to l = order_at l.search.now l.node
