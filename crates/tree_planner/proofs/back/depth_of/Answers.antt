use Rattle.std.proofs.Common.{arith}
use Rattle.tree_planner.proofs.back.depth_of.Goals as goal

pub returns-clause-most : goal.returns-clause-most
returns-clause-most c =
    let low = c.requires.hollow.standing.low c.args.node in
    let is = c.get.ensures 0 in
    omega arith
