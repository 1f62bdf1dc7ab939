use Rattle.std.proofs.Common.{arith}
use Rattle.std.proofs.lemmas.List.{with_items_is}
use Rattle.flow_network.proofs.Listing.{flow_with_arc, length-with_arc}
use Rattle.flow_network.proofs.network.Network.add_between.Goals as goal

pub invariant_of-self-in-Ok : goal.invariant_of-self-in-Ok
invariant_of-self-in-Ok g c = grind (arith, length-with_arc, with_items_is, flow_with_arc)
