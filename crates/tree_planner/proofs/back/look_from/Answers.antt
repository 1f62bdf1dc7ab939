use Rattle.tree_planner.proofs.ImprovedBack.{at_kept, improves_trans, settles_then}
use Rattle.tree_planner.proofs.back.look_from.Goals as goal

pub look_further-requires-clause-at : goal.look_further-requires-clause-at
look_further-requires-clause-at c =
    at_kept c.settle.new.self c.look_free.new.search c.look_free.ensures.improves c.args.node
    (c.settle.ensures.at c.args.hollow.now c.requires.searching c.requires.nearest)

pub returns-clause-settles : goal.returns-clause-settles
returns-clause-settles c =
    let mid = c.settle.new.self in
    let last = c.look_further.new.search in
    settles_then c.args.search.now mid last c.args.node
    (c.settle.ensures.settles c.args.hollow.now c.requires.searching c.requires.nearest)
    (improves_trans mid c.look_free.new.search last c.look_free.ensures.improves
    c.look_further.ensures.improves)
