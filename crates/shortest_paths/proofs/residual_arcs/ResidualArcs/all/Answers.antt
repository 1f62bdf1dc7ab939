use Rattle.std.proofs.Common.{ap, ◌∙◌}
use Rattle.flow_network.specs.Flows.{AreArcs}
use Rattle.shortest_paths.proofs.Kept.{all_residual}
use Rattle.shortest_paths.proofs.residual_arcs.ResidualArcs.all.Goals as goal

pub returns-clause-residual : goal.returns-clause-residual
returns-clause-residual g c =
    let size = c.size-nodes.ensures ∙ ap g.L.Layout.node_count c.layout.ensures.value in
    let are : AreArcs c.size-nodes.result c.args.meter.now.network.arcs =
    rw size c.layout.ensures.limits.arcs_in in
    all_residual c.size-nodes.result c.args.meter.now.network.arcs _ are
    (c.in_ok-vec.ensures.items_if_clones_equal (λ _ e. e)) c.in_ok-no_sink_arcs.ensures
    c.in_ok-all_leaving.ensures.size c.in_ok-all_leaving.ensures.each
    c.in_ok-none_matched.ensures
