use Rattle.std.proofs.Common.{◌≡◌, ◌≤◌, None, ap, ◌∙◌, subst}
use Rattle.std.specs.Prelude.{◌≢◌}
use Rattle.tree_flow.specs.declared.nodes.TreeNode.{TreeNode}
use Rattle.tree_flow.specs.Nodes.{node_above, parent}
use Rattle.tree_flow.specs.Table.{at_node}
use Rattle.tree_planner.proofs.Lines.{above_level}
use Rattle.tree_planner.proofs.events.deepen_above.Goals as goal

pub returns-clause-standing : goal.returns-clause-standing
returns-clause-standing c =
    c.deepen-3.ensures.standing None (c.deepen-2.ensures.standing None
    (c.deepen.ensures.standing None c.requires.standing))

pub returns-clause-above : goal.returns-clause-above
returns-clause-above c =
    let tree = c.args.problem.now.tree in
    let w = c.args.worker in
    let one = c.deepen.new.tables.depth in
    let two = c.deepen-2.new.tables.depth in
    let three = c.deepen-3.new.tables.depth in
    let s = c.deepen.ensures.standing None c.requires.standing in
    let t = c.deepen-2.ensures.standing None s in
    let top = c.node_above.ensures.node ∙ ap (λ t. node_above t 2 w) c.tree-tree.ensures.tree in
    let mid = c.node_above-2.ensures.node ∙ ap (λ t. node_above t 1 w) c.tree-tree.ensures.tree in
    let low = c.node_above-3.ensures.node ∙ ap (λ t. node_above t 0 w) c.tree-tree.ensures.tree in
    above_level tree w (λ v. at_node one v) (λ v. at_node two v) (λ v. at_node three v)
    (subst (λ v. at_node one (parent tree v) ≤ at_node one v) top
    (c.deepen.ensures.level None c.requires.standing))
    (subst (λ v. at_node two (parent tree v) ≤ at_node two v) mid (c.deepen-2.ensures.level None s))
    (subst (λ x. (v : TreeNode) → v ≢ x → at_node two v ≡ at_node one v) mid c.deepen-2.ensures.others)
    (subst (λ v. at_node three (parent tree v) ≤ at_node three v) low (c.deepen-3.ensures.level None t))
    (subst (λ x. (v : TreeNode) → v ≢ x → at_node three v ≡ at_node two v) low c.deepen-3.ensures.others)
