use Rattle.direct_network.proofs.DirectWays.{wave_network}
use Rattle.direct_network.proofs.laws.direct_is_wave_network.Goals as goal

pub returns : goal.returns
returns c = wave_network
