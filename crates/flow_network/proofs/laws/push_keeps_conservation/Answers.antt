use Rattle.flow_network.proofs.Balance.{push_balance}
use Rattle.flow_network.proofs.laws.push_keeps_conservation.Goals as goal

pub returns : goal.returns
returns c = push_balance
