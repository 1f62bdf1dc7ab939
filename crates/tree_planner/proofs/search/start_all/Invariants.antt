use Rattle.std.proofs.Common.{ℕ, ◌<◌, get_or}
use Rattle.tree_flow.specs.declared.nodes.TreeNode.TheVariants.{Worker}
use Rattle.tree_planner.specs.Ends.{IsLeft}
use Rattle.tree_planner.specs.Searching.{wave_of, Improves, IsOutBy, IsSearching, IsStartedAt}
use Rattle.tree_planner.proofs.search.start_all.Given as goal

abbrev pub invariant-loop-node : goal.invariant-loop-node
invariant-loop-node l = record {
  searching : IsSearching l.ground l.search;
  improves : Improves l.fn.search l.search;
  started : (k : ℕ) → k < l.node-index
      → IsLeft (wave_of l.ground).tree (IsOutBy l.ground l.ends) l.top (get_or l.nodes k (Worker 0))
      → IsStartedAt l.ground l.search (record { node = get_or l.nodes k (Worker 0); level = l.level });
}
