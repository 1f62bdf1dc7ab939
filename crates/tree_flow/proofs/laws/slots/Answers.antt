use Rattle.tree_flow.proofs.Given.{gives_slot, joins, deepens, adds_slot, takes_off}
use Rattle.tree_flow.proofs.Given.{removes_slot, changes, begins}
use Rattle.tree_flow.proofs.laws.slots.Goals as goal

pub returns : goal.returns
returns c = search (gives_slot, joins, deepens, adds_slot, takes_off, removes_slot, changes, begins)
