use Rattle.std.proofs.Common.{[]}
use Rattle.tree_flow.proofs.Certified.{engine_certifies}
use Rattle.rack_network.proofs.Exists.{certified_is_over_racks}
use Rattle.wave_planner.proofs.laws.engine_is_a_flow.Goals as goal

pub returns : goal.returns
returns c wave state starts workers prices terms tree near known sizes kept down priced =
    certified_is_over_racks wave starts workers prices tree sizes
    (engine_certifies wave [] state starts prices terms near known kept down priced) priced.unusable
