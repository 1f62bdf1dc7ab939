use Rattle.std.proofs.Common.{ℕ, ◌<◌, ◌-◌, ◌∙◌, Some, ap, subst, arith}
use Rattle.tree_flow.specs.Moves.{IsFlowSet}
use Rattle.tree_flow.specs.Table.{at_node}
use Rattle.tree_planner.specs.View.{state_of}
use Rattle.tree_planner.proofs.Sunk.{parent_other, sunk_depth, sunk_standing}
use Rattle.tree_planner.proofs.refill.sink_to.Goals as goal

pub overflow_sub-units : goal.overflow_sub-units
overflow_sub-units c =
    let same = ap (λ f. f c.args.below) c.deepen.ensures.flow in
    let some = c.requires.some in
    let is = c.get-units.ensures 0 in
    omega arith

pub returns-clause-standing : goal.returns-clause-standing
returns-clause-standing c =
    let wave = c.args.problem.now in
    let mid = c.deepen.new.tables in
    let new = c.put_units.new.tables in
    let some : 0 < at_node mid.flow c.args.below =
    (let same = ap (λ f. f c.args.below) c.deepen.ensures.flow in let some = c.requires.some in omega
    arith) in
    sunk_standing wave mid new c.args.node c.args.below
    (c.deepen.ensures.standing (Some c.args.node) c.requires.standing) c.put_units.ensures.tables
    c.requires.above
    c.requires.hangs some (c.deepen.ensures.level (Some c.args.node) c.requires.standing)
    (subst (λ n. IsFlowSet (state_of mid) (state_of new) c.args.below n)
    (ap (λ (n : ℕ). n - 1) (c.get-units.ensures 0)) c.put_units.ensures.set)

pub returns-clause-depth : goal.returns-clause-depth
returns-clause-depth c =
    let wave = c.args.problem.now in
    let mid = c.deepen.new.tables in
    let new = c.put_units.new.tables in
    let some : 0 < at_node mid.flow c.args.below =
    (let same = ap (λ f. f c.args.below) c.deepen.ensures.flow in let some = c.requires.some in omega
    arith) in
    sunk_depth wave mid new c.args.node c.args.below (c.get-units.result - 1)
    (c.deepen.ensures.standing (Some c.args.node) c.requires.standing) c.requires.above some
    (c.deepen.ensures.level (Some c.args.node) c.requires.standing) c.put_units.ensures.set
    ∙ c.deepen.ensures.others c.args.node
    (λ e. parent_other wave.tree c.args.below c.requires.hangs (c.requires.above ∙ e))

pub returns-clause-flows : goal.returns-clause-flows
returns-clause-flows c = λ v n. c.put_units.ensures.set.others v n ∙ ap (λ f. f v) c.deepen.ensures.flow
