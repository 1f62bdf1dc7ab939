use Rattle.flow_network.proofs.Listed.{each_arc}
use Rattle.flow_network.proofs.laws.lists_hold_each_arc.Goals as goal

pub returns : goal.returns
returns c = each_arc
