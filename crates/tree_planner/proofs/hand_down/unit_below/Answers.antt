use Rattle.tree_planner.proofs.Handed.{unit_there}
use Rattle.tree_planner.proofs.hand_down.unit_below.Goals as goal

pub unreachable-requires : goal.unreachable-requires
unreachable-requires c =
    unit_there c.args.problem.now c.args.children.now c.args.left.now c.args.node c.requires.racks
    c.requires.children c.requires.inner c.requires.unit (c.child_with.ensures.none c.in-None.is)
