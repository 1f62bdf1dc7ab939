use Rattle.network_prices.proofs.Certified.{prices_certify}
use Rattle.network_prices.proofs.laws.prices_certify.Goals as goal

pub returns : goal.returns
returns c = prices_certify
