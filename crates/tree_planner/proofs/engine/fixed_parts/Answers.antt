use Rattle.std.proofs.Common.{arith, subst}
use Rattle.tree_flow.specs.Nodes.{AreNodes}
use Rattle.tree_planner.specs.Hanging.{AreChildren}
use Rattle.tree_planner.proofs.Known.{is_known}
use Rattle.tree_planner.proofs.engine.fixed_parts.Goals as goal

pub returns : goal.returns
returns c = record {
  known = is_known c.args.problem.now c.limits.ensures.problem c.limits.ensures.tree;
  small = omega arith;
  few = omega arith;
  nodes = subst (λ t. AreNodes t c.in_ok-nodes.nodes.items) c.tree.ensures.tree c.in_ok-nodes.ensures;
  children = subst (λ t. AreChildren t c.in_ok-children.children) c.tree-2.ensures.tree c.in_ok-children.ensures;
  ends = c.in_ok-ends.ensures;
  worth = c.reward-reward.ensures.reward;
  over = c.in_ok-slots.ensures.over;
  slots = c.in_ok-slots.ensures.sums;
}
