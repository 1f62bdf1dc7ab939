use Rattle.tree_planner.proofs.ImprovedBack.{at_kept, improves_trans}
use Rattle.tree_planner.proofs.LookedBack.{looked_all}
use Rattle.tree_planner.proofs.back.look_further.Goals as goal

pub look_down-requires-clause-at : goal.look_down-requires-clause-at
look_down-requires-clause-at c =
    at_kept c.args.search.now c.look_up.new.search c.look_up.ensures.improves c.args.node c.requires.at

pub look_over-requires-clause-at : goal.look_over-requires-clause-at
look_over-requires-clause-at c =
    let one = c.args.search.now in
    let two = c.look_up.new.search in
    let three = c.look_down.new.search in
    at_kept one three (improves_trans one two three c.look_up.ensures.improves c.look_down.ensures.improves)
    c.args.node c.requires.at

pub returns-clause-improves : goal.returns-clause-improves
returns-clause-improves c =
    let one = c.args.search.now in
    let two = c.look_up.new.search in
    let three = c.look_down.new.search in
    let four = c.look_over.new.search in
    improves_trans one two four c.look_up.ensures.improves
    (improves_trans two three four c.look_down.ensures.improves c.look_over.ensures.improves)

pub returns-clause-looked : goal.returns-clause-looked
returns-clause-looked c =
    looked_all c.args.hollow.now c.args.node c.args.search.now c.look_up.new.search c.look_down.new.search
    c.look_over.new.search c.requires.at.settled c.look_up.ensures.improves c.look_down.ensures.improves
    c.look_over.ensures.improves c.requires.low c.look_up.ensures.down c.look_down.ensures.up
    c.look_over.ensures.over
