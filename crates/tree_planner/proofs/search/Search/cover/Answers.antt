use Rattle.tree_planner.proofs.Improved.{covered_improves, covered_kept}
use Rattle.tree_planner.proofs.search.Search.cover.Goals as goal

pub returns-clause-improves : goal.returns-clause-improves
returns-clause-improves c =
    covered_improves c.args.self.now c.put.new.self c.args.top
    (record { offset = c.args.offset; split = c.args.split }) c.put.ensures.here c.put.ensures.others c.put.ensures.size

pub returns-clause-kept : goal.returns-clause-kept
returns-clause-kept c = λ g s covered.
    covered_kept c.args.self.now c.put.new.self c.args.top
    (record { offset = c.args.offset; split = c.args.split }) c.put.ensures.here c.put.ensures.others c.put.ensures.size
    g s covered
