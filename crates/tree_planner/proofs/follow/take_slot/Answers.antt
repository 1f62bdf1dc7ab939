use Rattle.std.proofs.Common.{◌∙◌, ◌+◌, cond, ap, arith}
use Rattle.tree_flow.specs.declared.nodes.TreeNode.TheVariants.{Worker}
use Rattle.tree_flow.specs.Nodes.{is_under}
use Rattle.tree_flow.specs.Table.{at_node}
use Rattle.tree_flow.proofs.Under.{under-le}
use Rattle.tree_planner.specs.declared.tables.Tables.{Tables}
use Rattle.tree_planner.specs.View.{state_of}
use Rattle.tree_planner.proofs.Placed.{taken_tables}
use Rattle.tree_planner.proofs.follow.take_slot.Goals as goal

pub one_less_above-requires-clause-some : goal.one_less_above-requires-clause-some
one_less_above-requires-clause-some c = λ v under.
    (let wave = c.args.problem.now in
    let old = c.args.tables.now in
    let is = c.new.ensures in
    let some = c.requires.some in
    let same = ap (λ (t : Tables). at_node t.below v) c.take_free.ensures.rest in
    let sums = c.requires.tables.sums v in
    let least = under-le wave v (state_of old).free c.new.result (omega arith) under in
    let at = ap (state_of old).free is in
    omega arith)

pub returns-clause-tables : goal.returns-clause-tables
returns-clause-tables c =
    let wave = c.args.problem.now in
    let below = c.one_less_above.new.numbers in
    taken_tables wave c.args.tables.now c.take_free.new.tables below c.args.worker
    c.requires.tables c.take_free.ensures.rest c.take_free.ensures.size c.take_free.ensures.taken
    c.one_less_above.ensures.size
    (λ v. c.one_less_above.ensures.less v
    ∙ ap (λ w. at_node below v + cond (is_under wave.tree (Worker w) v) 1 0) c.new.ensures)
