use Rattle.network_prices.proofs.Routed.{assignment_is_flow}
use Rattle.network_prices.proofs.laws.assignment_is_flow.Goals as goal

pub returns : goal.returns
returns c = assignment_is_flow
