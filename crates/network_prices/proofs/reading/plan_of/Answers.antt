use Rattle.std.proofs.Common.{ℕ, List}
use Rattle.std.proofs.lemmas.Result.{IfOk-weaker}
use Rattle.network_prices.specs.Layers.{nodes_from}
use Rattle.network_prices.specs.Prices.{IsPlanOf}
use Rattle.network_prices.proofs.reading.plan_of.Goals as goal

pub returns-clause-read : goal.returns-clause-read
returns-clause-read g c =
    let wave = c.args.problem.now in
    let above = g.N.WaveNetwork.above wave in
    IfOk-weaker c.read_plan.result
    (λ plan. (above : ℕ → List ℕ) → IsPlanOf wave (nodes_from wave c.first-first.result above)
    c.all_arcs.result.now c.all_flows.result.now plan.starts)
    (λ plan. IsPlanOf wave (nodes_from wave (g.N.WaveNetwork.first wave) above) c.args.network.now.arcs
    c.args.network.now.flows plan.starts)
    (λ plan read. (let here = read above in
    rw (c.first-first.ensures.place, c.all_arcs.ensures.value, c.all_flows.ensures) at here))
    c.read_plan.ensures.read
