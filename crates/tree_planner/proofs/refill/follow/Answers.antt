use Rattle.std.proofs.Common.{None, Some, ◌∙◌, arith}
use Rattle.tree_flow.specs.declared.nodes.TreeNode.TheVariants.{Worker}
use Rattle.tree_flow.proofs.Under.{slots-most, under_worker}
use Rattle.tree_planner.specs.View.{state_of}
use Rattle.tree_planner.proofs.Refilled.{all_same_places, all_same_trans, freed, joined, moved_standing}
use Rattle.tree_planner.proofs.Standing.{stands_as_deep}
use Rattle.tree_planner.proofs.refill.follow.Goals as goal

pub give_slot-requires-clause-few_own : goal.give_slot-requires-clause-few_own
give_slot-requires-clause-few_own c =
    let wave = c.args.problem.now in
    let w = c.sink-worker.result in
    let state = state_of c.sink-worker.new.tables in
    let each = c.sink-worker.ensures.standing.kept.balanced.each (Worker w) in
    let own = under_worker wave state.free w c.sink-worker.ensures.worker in
    let most = slots-most wave c.limits.ensures.problem (Worker w) in
    omega arith

pub sink-worker-requires-clause-standing : goal.sink-worker-requires-clause-standing
sink-worker-requires-clause-standing c =
    let search = c.args.search.now in
    moved_standing c.args.problem.now c.args.tables.now c.move_to.new.tables search (Some search.hole) c.in-Free.node
    c.requires.standing c.move_to.ensures.tables c.move_to.ensures.moved

pub returns-in-Free-clause-standing : goal.returns-in-Free-clause-standing
returns-in-Free-clause-standing c =
    freed c.args.problem.now c.args.tables.now c.move_to.new.tables c.sink-worker.new.tables
    c.give_slot.new.tables
    c.args.search.now c.in-Free.node c.sink-worker.result c.requires.ready c.in-Free.is
    c.move_to.ensures.depth
    c.sink-worker.ensures.standing c.sink-worker.ensures.depth c.give_slot.ensures.tables
    c.give_slot.ensures.taken

pub returns-in-Join-clause-standing : goal.returns-in-Join-clause-standing
returns-in-Join-clause-standing c =
    let wave = c.args.problem.now in
    let old = c.args.tables.now in
    let mid = c.move_to-in-Join.new.tables in
    let new = c.put_split.new.tables in
    let search = c.args.search.now in
    let moved = c.move_to-in-Join.ensures.moved in
    let placed = c.put_split.ensures.placed in
    stands_as_deep wave old new (Some search.hole) None c.requires.standing (placed.terms ∙ moved.terms)
    (placed.depth ∙ moved.depth) c.put_split.ensures.tables
    (joined wave (state_of old) (state_of mid) (state_of new) search c.requires.ready c.in-Join.split c.in-Join.end
    c.in-Join.is moved placed).0

pub returns-in-Free-clause-unshipped : goal.returns-in-Free-clause-unshipped
returns-in-Free-clause-unshipped c =
    let moved = state_of c.move_to.new.tables in
    let new = state_of c.give_slot.new.tables in
    all_same_trans (state_of c.args.tables.now) moved new c.move_to.ensures.moved.unshipped
    (all_same_places moved new (c.give_slot.ensures.places ∙ c.sink-worker.ensures.places))

pub returns-in-Join-clause-unshipped : goal.returns-in-Join-clause-unshipped
returns-in-Join-clause-unshipped c =
    (joined c.args.problem.now (state_of c.args.tables.now) (state_of c.move_to-in-Join.new.tables)
    (state_of c.put_split.new.tables) c.args.search.now c.requires.ready c.in-Join.split c.in-Join.end
    c.in-Join.is
    c.move_to-in-Join.ensures.moved c.put_split.ensures.placed).1

pub give_slot-requires-clause-few : goal.give_slot-requires-clause-few
give_slot-requires-clause-few c = λ v.
    (let wave = c.args.problem.now in
    let each = c.sink-worker.ensures.standing.kept.balanced.each v in
    let sums = c.sink-worker.ensures.standing.tables.sums v in
    let most = slots-most wave c.limits.ensures.problem v in
    omega arith)
