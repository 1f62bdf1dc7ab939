use Rattle.flow_network.proofs.HandOn.{enough_wait}
use Rattle.flow_network.proofs.laws.enough_units_wait.Goals as goal

pub returns : goal.returns
returns c = enough_wait
