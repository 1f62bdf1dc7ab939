use Rattle.std.proofs.Common.{◌∙◌, ◌+◌, cond, ap, arith}
use Rattle.tree_flow.specs.declared.nodes.TreeNode.TheVariants.{Worker}
use Rattle.tree_flow.specs.Nodes.{is_under}
use Rattle.tree_flow.specs.Table.{at_node}
use Rattle.tree_planner.specs.declared.tables.Tables.{Tables}
use Rattle.tree_planner.proofs.Placed.{given_tables}
use Rattle.tree_planner.proofs.refill.give_slot.Goals as goal

pub add_above-requires-clause-small : goal.add_above-requires-clause-small
add_above-requires-clause-small c = λ v.
    (let same = ap (λ (t : Tables). at_node t.below v) c.give_free.ensures.rest in
    let few = c.requires.few v in
    omega arith)

pub returns-clause-tables : goal.returns-clause-tables
returns-clause-tables c =
    let wave = c.args.problem.now in
    let mid = c.give_free.new.tables in
    let below = c.add_above.new.numbers in
    given_tables wave c.args.tables.now mid below c.rewind.new.self c.args.worker c.requires.tables
    c.give_free.ensures.rest c.give_free.ensures.size c.give_free.ensures.taken c.add_above.ensures.size
    (λ v. c.add_above.ensures.added v
    ∙ ap (λ w. at_node mid.below v + cond (is_under wave.tree (Worker w) v) 1 0) c.new.ensures)
