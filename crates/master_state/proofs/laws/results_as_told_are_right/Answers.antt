use Rattle.master_state.proofs.Promises.{results_as_told_are_right, parts_as_told_are_right}
use Rattle.master_state.proofs.laws.results_as_told_are_right.Goals as goal

pub returns-clause-splits : goal.returns-clause-splits
returns-clause-splits c = results_as_told_are_right

pub returns-clause-parts : goal.returns-clause-parts
returns-clause-parts c = parts_as_told_are_right
