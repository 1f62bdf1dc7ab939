use Rattle.tree_flow.proofs.Moved.{pushes_down, pushes_up, hands_over, sends_off, takes_slot, ships, lets_wait}
use Rattle.tree_flow.proofs.laws.moves.Goals as goal

pub returns : goal.returns
returns c = search (pushes_down, pushes_up, hands_over, sends_off, takes_slot, ships, lets_wait)
