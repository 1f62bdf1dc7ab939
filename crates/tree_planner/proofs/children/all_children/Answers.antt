use Rattle.std.proofs.Common.{arith}
use Rattle.tree_planner.proofs.Hung.{hung_more, hung_none}
use Rattle.tree_planner.proofs.Tops.{all_taken, taken_more}
use Rattle.tree_planner.proofs.children.all_children.Goals as goal

pub loop-node-init : goal.loop-node-init
loop-node-init c = record {
  sized = c.in_ok-children.ensures.sized;
  each = λ u v. hung_none c.args.tree.now c.args.nodes.now c.in_ok-children.children u v (c.in_ok-children.ensures.none u);
}

pub loop-node-preserved : goal.loop-node-preserved
loop-node-preserved c = record {
  sized = c.in_ok-hang.ensures.sized;
  each = λ u v. hung_more c.args.tree.now c.args.nodes.now c.loop-node.children c.hang.new.children c.loop-node.node-index
      u v (c.in_ok-hang.ensures.hangs u v) (c.loop-node.invariant.each u v)
      (taken_more c.args.nodes.now c.loop-node.node-index (omega arith) v);
}

pub returns : goal.returns
returns c = record {
  sized = c.loop-node.invariant.sized;
  each = λ u v. (
    λ has. ((c.loop-node.invariant.each u v).0 has).1,
    λ hangs. (c.loop-node.invariant.each u v).1 (
      all_taken c.args.nodes.now c.loop-node.node-index (omega arith) v (c.requires.each v hangs.known),
      hangs,
    ),
  );
}
