use Rattle.tree_planner.proofs.ImprovedBack.{at_kept, improves_trans}
use Rattle.tree_planner.proofs.back.look_over.Goals as goal

pub over_all-requires-clause-at : goal.over_all-requires-clause-at
over_all-requires-clause-at c =
    at_kept c.args.search.now c.over_first.new.search c.over_first.ensures.improves c.args.node c.requires.at

pub returns-clause-improves : goal.returns-clause-improves
returns-clause-improves c =
    improves_trans c.args.search.now c.over_first.new.search c.over_all.new.search c.over_first.ensures.improves
    c.over_all.ensures.improves
