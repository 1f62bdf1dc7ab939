use Rattle.std.proofs.Common.{◌≡◌, subst, arith, ◌<◌}
use Rattle.tree_flow.specs.declared.nodes.TreeNode.TheVariants.{Worker}
use Rattle.tree_flow.specs.Table.{at_node}
use Rattle.tree_planner.specs.Hanging.{hanging}
use Rattle.tree_planner.proofs.Below.{some_below}
use Rattle.tree_planner.proofs.Looked.{at_each}
use Rattle.tree_planner.proofs.down.free_child.Goals as goal

pub unreachable-requires : goal.unreachable-requires
unreachable-requires c =
    let wave = c.args.problem.now in
    let row = hanging c.args.children.now c.args.node in
    let sums = c.requires.sums.1 in
    let found = some_below wave c.requires.wave c.args.node c.requires.inner _
    (subst (λ n. 0 < n) (sums c.args.node) c.requires.some) in
    let none = at_each row (Worker 0) (λ v. at_node c.args.below.now v ≡ 0)
    (c.child_with.ensures.none c.in-None.is) found.0
    ((c.requires.children.each c.args.node found.0).1 found.1) in
    let sum = sums found.0 in
    let some = found.2 in
    omega arith
