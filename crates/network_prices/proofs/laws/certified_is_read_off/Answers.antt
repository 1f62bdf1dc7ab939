use Rattle.network_prices.proofs.Potentials.{certified_is_read_off}
use Rattle.network_prices.proofs.laws.certified_is_read_off.Goals as goal

pub returns : goal.returns
returns c = certified_is_read_off
