use Rattle.tree_planner.proofs.back.ends_of.Goals as goal

pub returns : goal.returns
returns c = c.at.ensures
