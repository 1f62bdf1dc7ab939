use Rattle.std.proofs.Common.{subst}
use Rattle.rack_tree.specs.Tree.{Tree}
use Rattle.tree_planner.specs.Ends.{IsBarred, IsLeft}
use Rattle.tree_planner.specs.Searching.{IsOutBy}
use Rattle.tree_planner.proofs.Covered.{left_end}
use Rattle.tree_planner.proofs.choice.better_node.Goals as goal

pub better-requires-clause-is_end : goal.better-requires-clause-is_end
better-requires-clause-is_end c =
    left_end c.args.ground.now c.args.split (IsOutBy c.args.ground.now c.args.ends.now) c.args.top c.args.end.level
    c.requires.group c.args.end.node (subst (λ (t : Tree). IsLeft t (IsBarred t c.args.ends.now.barred) c.args.top c.args.end.node)
    c.tree.ensures.tree (c.is_left.ensures.0 c.if-is_left.true))
