use Rattle.std.proofs.Common.{◌↔◌, take, Contains}
use Rattle.tree_flow.specs.declared.nodes.TreeNode.{TreeNode}
use Rattle.tree_planner.specs.Hanging.{hanging, AreSized, HangsFrom}
use Rattle.tree_planner.proofs.children.all_children.Given as goal

abbrev pub invariant-loop-node : goal.invariant-loop-node
invariant-loop-node l = record {
  sized : AreSized l.tree l.children;
  each : (u v : TreeNode) → Contains (hanging l.children u) v
      ↔ (Contains (take l.node-index l.nodes) v × HangsFrom l.tree u v);
}
