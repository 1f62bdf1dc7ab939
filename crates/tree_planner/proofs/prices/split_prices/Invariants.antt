use Rattle.tree_planner.proofs.Paired.{ArePriced}
use Rattle.tree_planner.proofs.prices.split_prices.Given as goal

abbrev pub invariant-loop-pair : goal.invariant-loop-pair
invariant-loop-pair l = ArePriced l.problem l.worth l.workers l.pairs l.pair-index l.prices.items
