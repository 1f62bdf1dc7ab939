use Rattle.tree_planner.proofs.Lowered.{noted_improves, noted_kept}
use Rattle.tree_planner.proofs.search.Search.note_low.Goals as goal

pub returns-clause-improves : goal.returns-clause-improves
returns-clause-improves c =
    noted_improves c.args.self.now c.put.new.self c.args.split c.args.low c.put.ensures

pub returns-clause-kept : goal.returns-clause-kept
returns-clause-kept c = λ g s is.
    noted_kept c.args.self.now c.put.new.self c.args.split c.args.low c.put.ensures g s is
