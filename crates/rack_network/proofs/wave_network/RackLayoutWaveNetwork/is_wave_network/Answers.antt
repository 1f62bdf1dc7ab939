use Rattle.rack_network.proofs.Layers.{is_layered}
use Rattle.rack_network.proofs.RackWays.{wave_network}
use Rattle.rack_network.proofs.wave_network.RackLayoutWaveNetwork.is_wave_network.Goals as goal

pub returns-clause-layers : goal.returns-clause-layers
returns-clause-layers c = is_layered

pub returns-clause-network : goal.returns-clause-network
returns-clause-network c = wave_network
