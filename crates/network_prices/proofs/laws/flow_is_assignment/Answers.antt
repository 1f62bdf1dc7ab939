use Rattle.network_prices.proofs.Certified.{flow_is_assignment}
use Rattle.network_prices.proofs.laws.flow_is_assignment.Goals as goal

pub returns : goal.returns
returns c = flow_is_assignment
