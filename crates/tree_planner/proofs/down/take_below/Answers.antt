use Rattle.std.proofs.Common.{◌∙◌, ap, sym, arith}
use Rattle.tree_flow.specs.Table.{at_node}
use Rattle.tree_flow.proofs.Moved.{takes_slot}
use Rattle.tree_planner.specs.View.{state_of}
use Rattle.tree_planner.proofs.Below.{deep_enough, flat_between, free_there}
use Rattle.tree_planner.proofs.down.take_below.Goals as goal

pub free_worker-worker-requires-clause-sums : goal.free_worker-worker-requires-clause-sums
free_worker-worker-requires-clause-sums c = ((state_of c.args.tables.now).free, c.requires.tables.sums)

pub take_slot-requires-clause-some : goal.take_slot-requires-clause-some
take_slot-requires-clause-some c =
    free_there c.args.problem.now c.args.tables.now c.requires.tables c.free_worker-worker.result
    c.free_worker-worker.ensures.known c.free_worker-worker.ensures.free

pub raise_hole-requires-clause-hole : goal.raise_hole-requires-clause-hole
raise_hole-requires-clause-hole c =
    let wave = c.args.problem.now in
    let tables = c.args.tables.now in
    let w = c.free_worker-worker.result in
    let known = c.free_worker-worker.ensures.known in
    let under = c.free_worker-worker.ensures.under in
    let some = free_there wave tables c.requires.tables w known c.free_worker-worker.ensures.free in
    takes_slot wave (state_of tables) (state_of c.take_slot.new.tables) w c.requires.kept c.take_slot.ensures.taken
    (deep_enough wave (state_of tables) c.requires.kept w known some c.args.node under
    (c.requires.cheap w known under some))

pub raise_hole-requires-clause-flat : goal.raise_hole-requires-clause-flat
raise_hole-requires-clause-flat c = λ u over under.
    (let wave = c.args.problem.now in
    let tables = c.args.tables.now in
    let w = c.free_worker-worker.result in
    let known = c.free_worker-worker.ensures.known in
    let above = c.free_worker-worker.ensures.under in
    let some = free_there wave tables c.requires.tables w known c.free_worker-worker.ensures.free in
    ap (λ t. at_node t u) c.take_slot.ensures.depth
    ∙ flat_between wave (state_of tables) c.requires.kept w known some c.args.node above
    (c.requires.cheap w known above some) u over under
    ∙ sym (ap (λ t. at_node t c.args.node) c.take_slot.ensures.depth))

pub returns-clause-flows : goal.returns-clause-flows
returns-clause-flows c = λ v.
    (let more = c.raise_hole.ensures.flows v in
    let same = ap (λ f. f v) c.take_slot.ensures.taken.flow in
    omega arith)
