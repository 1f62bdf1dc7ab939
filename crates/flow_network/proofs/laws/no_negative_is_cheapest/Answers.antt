use Rattle.flow_network.proofs.Cheapest.{no_negative_is_cheapest}
use Rattle.flow_network.proofs.laws.no_negative_is_cheapest.Goals as goal

pub returns : goal.returns
returns c = no_negative_is_cheapest
