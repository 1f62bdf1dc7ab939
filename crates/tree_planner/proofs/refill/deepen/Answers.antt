use Rattle.std.proofs.Common.{ℕ, ap, subst, arith, ◌∙◌}
use Rattle.tree_flow.specs.Nodes.{parent}
use Rattle.tree_flow.specs.Table.{at_node}
use Rattle.tree_planner.specs.View.{state_of}
use Rattle.tree_planner.specs.WayBack.{IsDepthSet}
use Rattle.tree_planner.proofs.Sunk.{deepened_standing}
use Rattle.tree_planner.proofs.refill.deepen.Goals as goal

pub returns-then-get-up-clause-standing : goal.returns-then-get-up-clause-standing
returns-then-get-up-clause-standing c = λ hole s.
    (let wave = c.args.problem.now in
    let old = c.args.tables.now in
    let new = c.set_depth.new.tables in
    let up = c.parent.ensures.node ∙ ap (λ t. parent t c.args.node) c.tree.ensures.tree in
    let at = c.get-up.ensures 0 ∙ ap (λ v. at_node old.depth v) up in
    let flow = c.get.ensures 0 in
    let slots = c.get-2.ensures 0 in
    let depth = c.get-then-get.ensures 0 in
    let sum = c.requires.fixed.slots c.args.node in
    deepened_standing wave old new c.args.node hole s c.set_depth.ensures.tables (omega arith) (omega arith)
    (subst (λ (n : ℕ). IsDepthSet (state_of old) (state_of new) c.args.node n) at c.set_depth.ensures.set))
