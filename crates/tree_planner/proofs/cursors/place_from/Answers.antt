use Rattle.std.proofs.Common.{subst, get_or, Contains}
use Rattle.std.proofs.lemmas.List.Elements.{Contains-get_or}
use Rattle.tree_flow.specs.declared.nodes.TreeNode.TheVariants.{Worker}
use Rattle.tree_planner.proofs.Added.{has_node}
use Rattle.tree_planner.proofs.cursors.place_from.Goals as goal

pub get-requires : goal.get-requires
get-requires c =
    let tree = c.args.tree.now in
    let row = c.of-row.result.now in
    let v = get_or row c.loop-k.k (Worker 0) in
    has_node tree c.args.numbers.now v c.requires.over ((c.requires.children.each c.args.node v).0
    (subst (λ xs. Contains xs v) c.of-row.ensures
    (Contains-get_or row c.loop-k.k (Worker 0) c.loop-k-test.true))).known
