use Rattle.std.proofs.Common.{length, ap, arith}
use Rattle.std.proofs.lemmas.Int.{ints}
use Rattle.flow_network.specs.Flow.{Flow}
use Rattle.flow_network.specs.Flows.{arc_index}
use Rattle.flow_network.proofs.Limits.{arc_read, flow_read}
use Rattle.flow_network.proofs.network.Network.view.Goals as goal

pub overflow_sub-result : goal.overflow_sub-result
overflow_sub-result g c =
    let here = ap arc_index c.in-Forward.is in
    let size = ap (λ (f : Flow g.row.L.Denot). length f.arcs) c.self.view_is in
    let few = flow_read _ _ _ _ _ c.self.invariant.within c.self.invariant.sizes (omega arith)
    c.index-seen.ensures c.index.ensures in
    omega arith

pub overflow_cast-result-in-Forward-2 : goal.overflow_cast-result-in-Forward-2
overflow_cast-result-in-Forward-2 g c =
    let here = ap arc_index c.in-Forward.is in
    let size = ap (λ (f : Flow g.row.L.Denot). length f.arcs) c.self.view_is in
    let limits = arc_read _ _ _ c.self.invariant.arcs_in (omega arith) c.index-seen.ensures in
    omega arith

pub overflow_cast-result-in-Reverse-2 : goal.overflow_cast-result-in-Reverse-2
overflow_cast-result-in-Reverse-2 g c =
    let here = ap arc_index c.in-Reverse.is in
    let size = ap (λ (f : Flow g.row.L.Denot). length f.arcs) c.self.view_is in
    let limits = arc_read _ _ _ c.self.invariant.arcs_in (omega arith) c.index-seen-in-Reverse.ensures in
    omega arith

pub overflow_sub-result-in-Reverse : goal.overflow_sub-result-in-Reverse
overflow_sub-result-in-Reverse g c =
    let here = ap arc_index c.in-Reverse.is in
    let size = ap (λ (f : Flow g.row.L.Denot). length f.arcs) c.self.view_is in
    let limits = arc_read _ _ _ c.self.invariant.arcs_in (omega arith) c.index-seen-in-Reverse.ensures in
    omega (arith, ints)
