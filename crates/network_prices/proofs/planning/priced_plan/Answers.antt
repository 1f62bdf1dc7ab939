use Rattle.std.proofs.Common.{◌≡◌, ℕ, ◌+◌, length, map, sym, ap, ◌∙◌, get_or, arith}
use Rattle.augmenting_paths.specs.Shipping.{IsCheapest}
use Rattle.network_prices.specs.Layers.{nodes_from}
use Rattle.network_prices.specs.Pending.{pending_splits}
use Rattle.network_prices.specs.Prices.{IsPlanOf}
use Rattle.network_prices.proofs.Routed.{certified, cheapest_costs}
use Rattle.network_prices.proofs.Sources.{can_ship}
use Rattle.network_prices.proofs.planning.priced_plan.Goals as goal

pub pending_nodes-requires : goal.pending_nodes-requires
pending_nodes-requires g c =
    let wave = c.args.problem.now in
    let size = c.is_wave_network.ensures.nodes wave _ c.in_ok-network.ensures.layout in
    let layers = c.is_wave_network.ensures.layers wave _ c.in_ok-network.ensures.arcs in
    let past = layers.past_splits in
    omega arith

pub saturate-requires-clause-can : goal.saturate-requires-clause-can
saturate-requires-clause-can g c =
    let wave = c.args.problem.now in
    let layout = c.in_ok-network.network.layout in
    let size = c.is_wave_network.ensures.nodes wave layout c.in_ok-network.ensures.layout in
    let last = c.last_node-sink.ensures.last in
    let sink : g.N.Layout.index_of layout c.last_node-sink.result
    ≡ g.N.WaveNetwork.first wave + length wave.workers + 1 = omega arith in
    let places = ap (map (g.N.Layout.index_of layout)) c.deref.ensures.value
    ∙ c.in_ok-sources.ensures.places in
    rw (places, sink) (can_ship wave
    (nodes_from wave (g.N.WaveNetwork.first wave) (g.N.WaveNetwork.above wave))
    c.in_ok-network.network.arcs (g.N.Layout.node_count layout)
    (c.is_wave_network.ensures.network wave _ c.in_ok-network.ensures.arcs) c.last_node-sink.ensures.arcs)

pub plan_of-requires-clause-shipped : goal.plan_of-requires-clause-shipped
plan_of-requires-clause-shipped g c =
    let wave = c.args.problem.now in
    let layout = c.in_ok-network.network.layout in
    let size = c.is_wave_network.ensures.nodes wave layout c.in_ok-network.ensures.layout in
    let last = c.last_node-sink.ensures.last in
    let sink : g.N.Layout.index_of layout c.last_node-sink.result
    ≡ g.N.WaveNetwork.first wave + length wave.workers + 1 = omega arith in
    let places = ap (map (g.N.Layout.index_of layout)) c.deref.ensures.value
    ∙ c.in_ok-sources.ensures.places in
    let shipped = c.in_ok-potentials.ensures.cheapest.shipment in
    rw c.saturate.ensures.arcs (rw (places, sink) at shipped)

pub returns-clause-over : goal.returns-clause-over
returns-clause-over g c =
    let wave = c.args.problem.now in
    let layout = c.in_ok-network.network.layout in
    let arcs = c.in_ok-network.network.arcs in
    let flows = c.saturate.new.network.flows in
    let nodes = nodes_from wave (g.N.WaveNetwork.first wave) (g.N.WaveNetwork.above wave) in
    let size = c.is_wave_network.ensures.nodes wave layout c.in_ok-network.ensures.layout in
    let last = c.last_node-sink.ensures.last in
    let sink : g.N.Layout.index_of layout c.last_node-sink.result
    ≡ g.N.WaveNetwork.first wave + length wave.workers + 1 = omega arith in
    let places = ap (map (g.N.Layout.index_of layout)) c.deref.ensures.value
    ∙ c.in_ok-sources.ensures.places in
    let best = c.in_ok-potentials.ensures.cheapest in
    let cheapest : IsCheapest arcs (pending_splits wave) nodes.sink flows = rw (places, sink) at best in
    let read = c.in_ok-plan.ensures.read in
    let plan : IsPlanOf wave nodes arcs flows c.in_ok-plan.plan.starts = rw c.saturate.ensures.arcs at read in
    record {
      arcs = arcs;
      flows = flows;
      depths = λ v. get_or c.in_ok-potentials.potentials v 0;
      over = c.in_ok-network.ensures.arcs;
      cheapest = cheapest;
      reduced = c.in_ok-potentials.ensures.shipped.reduced;
      at_sink = ap (λ (z : ℕ). get_or c.in_ok-potentials.potentials z 0) (sym sink)
          ∙ c.in_ok-potentials.ensures.shipped.at_sink;
      plan = plan;
      priced = c.in_ok-prices.ensures;
      cost = cheapest_costs wave nodes arcs flows c.in_ok-plan.plan.starts
          (c.is_wave_network.ensures.network wave arcs c.in_ok-network.ensures.arcs) cheapest plan;
    }

pub returns-clause-certifies : goal.returns-clause-certifies
returns-clause-certifies g c =
    let wave = c.args.problem.now in
    certified wave (nodes_from wave (g.N.WaveNetwork.first wave) (g.N.WaveNetwork.above wave))
    (g.N.WaveNetwork.HasArcs wave) c.in_ok-plan.plan.starts c.in_ok-prices.prices
    (c.is_wave_network.ensures.network wave) (returns-clause-over g c)
