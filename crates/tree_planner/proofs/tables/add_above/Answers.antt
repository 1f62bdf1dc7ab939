use Rattle.std.proofs.Common.{arith}
use Rattle.tree_flow.specs.declared.nodes.TreeNode.TheVariants.{Rack, Centre, Cluster}
use Rattle.tree_planner.proofs.tables.add_above.Goals as goal

pub add-requires-2-clause-small : goal.add-requires-2-clause-small
add-requires-2-clause-small c =
    let rack = c.index-2.result in
    let one = c.add.ensures.others (Rack rack) (λ s. cc) in
    let small = c.requires.small (Rack rack) in
    omega arith

pub add-requires-3-clause-small : goal.add-requires-3-clause-small
add-requires-3-clause-small c =
    let centre = c.index-3.result in
    let one = c.add.ensures.others (Centre centre) (λ s. cc) in
    let two = c.add-2.ensures.others (Centre centre) (λ s. cc) in
    let small = c.requires.small (Centre centre) in
    omega arith

pub add-requires-4-clause-small : goal.add-requires-4-clause-small
add-requires-4-clause-small c =
    let one = c.add.ensures.others Cluster (λ s. cc) in
    let two = c.add-2.ensures.others Cluster (λ s. cc) in
    let three = c.add-3.ensures.others Cluster (λ s. cc) in
    let small = c.requires.small Cluster in
    omega arith
