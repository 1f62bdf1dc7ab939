use Rattle.std.proofs.Common.{ℕ, ◌<◌, get_or}
use Rattle.tree_flow.specs.declared.nodes.TreeNode.TheVariants.{Worker}
use Rattle.tree_planner.specs.Ends.{IsLeft}
use Rattle.tree_planner.specs.Searching.{wave_of, Improves, IsLeaving, IsOutBy, IsOverTo, IsSearching}
use Rattle.tree_planner.proofs.over.over_all.Given as goal

abbrev pub invariant-loop-node : goal.invariant-loop-node
invariant-loop-node l = record {
  searching : IsSearching l.ground l.search;
  improves : Improves l.fn.search l.search;
  leaving : IsLeaving l.ground l.search l.leaving;
  over : (k : ℕ) → k < l.node-index
      → IsLeft (wave_of l.ground).tree (IsOutBy l.ground l.ends) l.top (get_or l.nodes k (Worker 0))
      → IsOverTo l.ground l.search l.leaving.end l.leaving.split
      (record { node = get_or l.nodes k (Worker 0); level = l.level });
}
