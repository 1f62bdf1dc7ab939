use Rattle.tree_planner.proofs.Added.{over_sized}
use Rattle.tree_planner.proofs.refill.set_depth.Goals as goal

pub returns-clause-tables : goal.returns-clause-tables
returns-clause-tables c =
    let a = c.requires.tables in
    record {
      places = a.places;
      flow = a.flow;
      depth = over_sized c.args.problem.now.tree c.args.tables.now.depth c.set.new.self a.depth c.set.ensures.size;
      free = a.free;
      below = a.below;
      sums = a.sums;
      lists = a.lists;
      known = a.known;
      listed = a.listed;
    }
