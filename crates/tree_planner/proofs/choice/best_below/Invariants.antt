use Rattle.std.proofs.Common.{ℕ, ◌<◌, ◌≤◌, get_or}
use Rattle.tree_flow.specs.declared.nodes.TreeNode.TheVariants.{Worker}
use Rattle.tree_flow.specs.State.{reach_cost}
use Rattle.tree_planner.specs.Choosing.{IsCheapest}
use Rattle.tree_planner.specs.Ends.{IsLeft}
use Rattle.tree_planner.specs.Searching.{state_at, wave_of, IsOutBy}
use Rattle.tree_planner.proofs.choice.best_below.Given as goal

abbrev pub invariant-loop-node : goal.invariant-loop-node
invariant-loop-node l = record {
  cheapest : IsCheapest l.ground l.split l.best;
  before : l.best.least ≤ l.fn.best.least;
  better : (k : ℕ) → k < l.node-index
      → IsLeft (wave_of l.ground).tree (IsOutBy l.ground l.ends) l.top (get_or l.nodes k (Worker 0))
      → l.best.least ≤ reach_cost (wave_of l.ground) (state_at l.ground) l.split
      (record { node = get_or l.nodes k (Worker 0); level = l.level });
}
