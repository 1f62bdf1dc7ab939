use Rattle.std.proofs.Common.{◌≡◌}
use Rattle.tree_flow.specs.declared.nodes.TreeNode.{TreeNode}
use Rattle.tree_planner.specs.Searching.{HasTables}
use Rattle.tree_planner.proofs.Begun.{IsForgotten}
use Rattle.tree_planner.proofs.search.Search.clear.Given as goal

abbrev pub invariant-loop-k : goal.invariant-loop-k
invariant-loop-k l = record {
  tables : HasTables l.tree l.self;
  row : l.self.reached ≡ l.fn.self.reached;
  lows : l.self.lows ≡ l.fn.self.lows;
  forgotten : (v : TreeNode) → IsForgotten l.fn.self l.self l.k v;
}
