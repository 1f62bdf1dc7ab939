use Rattle.rack_network.proofs.RackWays.{wave_network}
use Rattle.rack_network.proofs.laws.rack_is_wave_network.Goals as goal

pub returns : goal.returns
returns c = wave_network
