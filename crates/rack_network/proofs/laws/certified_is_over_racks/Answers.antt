use Rattle.rack_network.proofs.Exists.{certified_is_over_racks, rack_network_exists}
use Rattle.rack_network.proofs.laws.certified_is_over_racks.Goals as goal

pub returns-clause-exists : goal.returns-clause-exists
returns-clause-exists c = rack_network_exists

pub returns-clause-over : goal.returns-clause-over
returns-clause-over c = certified_is_over_racks
