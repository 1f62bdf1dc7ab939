use Rattle.std.proofs.Common.{length, ap, arith}
use Rattle.flow_network.specs.Flow.{Flow}
use Rattle.flow_network.specs.Flows.{arc_index}
use Rattle.flow_network.proofs.Limits.{flow_read}
use Rattle.flow_network.proofs.network.Network.residual.Goals as goal

pub overflow_sub-result : goal.overflow_sub-result
overflow_sub-result g c =
    let here = ap arc_index c.in-Forward.is in
    let size = ap (λ (f : Flow g.row.L.Denot). length f.arcs) c.self.view_is in
    let few = flow_read _ _ _ _ _ c.self.invariant.within c.self.invariant.sizes (omega arith)
    c.index.ensures c.index-in-Forward.ensures in
    omega arith
