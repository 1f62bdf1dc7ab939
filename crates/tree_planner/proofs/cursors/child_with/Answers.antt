use Rattle.std.proofs.Common.{rules, ◌<◌, subst, get_or, length, Contains}
use Rattle.std.proofs.lemmas.List.Elements.{Contains-get_or}
use Rattle.tree_flow.specs.declared.nodes.TreeNode.TheVariants.{Worker}
use Rattle.tree_planner.proofs.cursors.child_with.Goals as goal

pub returns-clause-hangs : goal.returns-clause-hangs
returns-clause-hangs c =
    let row = c.of.result.now in
    let k = c.in_ok-k.k in
    let v = get_or row k (Worker 0) in
    let within : k < length row = search rules in
    (c.requires.children.each c.args.node v).0
    (subst (λ xs. Contains xs v) c.of.ensures (Contains-get_or row k (Worker 0) within))
