use Rattle.tree_planner.proofs.Improved.{at_kept, improves_trans, settles_then}
use Rattle.tree_planner.proofs.Looked.{looked_all}
use Rattle.tree_planner.proofs.search.look_from.Goals as goal

pub look_up-requires-clause-at : goal.look_up-requires-clause-at
look_up-requires-clause-at c =
    at_kept c.settle.new.self c.look_down.new.search c.look_down.ensures.improves c.args.node
    (c.settle.ensures.at c.args.ground.now c.requires.searching c.requires.nearest)

pub look_over-requires-clause-at : goal.look_over-requires-clause-at
look_over-requires-clause-at c =
    let mid = c.settle.new.self in
    let two = c.look_up.new.search in
    at_kept mid two
    (improves_trans mid c.look_down.new.search two c.look_down.ensures.improves c.look_up.ensures.improves)
    c.args.node (c.settle.ensures.at c.args.ground.now c.requires.searching c.requires.nearest)

pub returns-clause-looked : goal.returns-clause-looked
returns-clause-looked c =
    let one = c.look_down.new.search in
    let at = at_kept c.settle.new.self one c.look_down.ensures.improves c.args.node
    (c.settle.ensures.at c.args.ground.now c.requires.searching c.requires.nearest) in
    looked_all c.args.ground.now c.args.node one c.look_up.new.search c.look_over.new.search at.settled
    c.look_up.ensures.improves c.look_over.ensures.improves c.look_over.ensures.searching
    c.look_down.ensures.down c.look_up.ensures.up c.look_over.ensures.over

pub returns-clause-settles : goal.returns-clause-settles
returns-clause-settles c =
    let mid = c.settle.new.self in
    let one = c.look_down.new.search in
    let two = c.look_up.new.search in
    let three = c.look_over.new.search in
    settles_then c.args.search.now mid three c.args.node
    (c.settle.ensures.settles c.args.ground.now c.requires.searching c.requires.nearest)
    (improves_trans mid one three c.look_down.ensures.improves
    (improves_trans one two three c.look_up.ensures.improves c.look_over.ensures.improves))
