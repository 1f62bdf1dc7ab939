use Rattle.network_prices.proofs.Routed.{cheapest_costs}
use Rattle.network_prices.proofs.laws.cheapest_costs_as_plan.Goals as goal

pub returns : goal.returns
returns c = cheapest_costs
