use Rattle.direct_network.proofs.DirectWays.{is_layered, wave_network}
use Rattle.direct_network.proofs.wave_network.DirectLayoutWaveNetwork.is_wave_network.Goals as goal

pub returns-clause-layers : goal.returns-clause-layers
returns-clause-layers c = is_layered

pub returns-clause-network : goal.returns-clause-network
returns-clause-network c = wave_network
