use Rattle.std.proofs.Common.{ap}
use Rattle.flow_network.specs.Flow.{Flow}
use Rattle.flow_network.proofs.Pushing.{residual_path}
use Rattle.flow_network.proofs.network.Network.push_along.Goals as goal

pub push_units-requires-clause-residual : goal.push_units-requires-clause-residual
push_units-requires-clause-residual g c =
    let arcs = ap (λ (f : Flow g.row.L.Denot). f.arcs) c.self.view_is in
    let flows = ap (λ (f : Flow g.row.L.Denot). f.flows) c.self.view_is in
    rw (c.deref.ensures.value, c.deref_mut.ensures.value, arcs, flows)
    (residual_path _ _ _ _ _ c.requires.path)
