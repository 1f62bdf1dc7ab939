use Rattle.std.proofs.Common.{rules, ◌≡◌, ◌<◌, true, ap, ◌∙◌, arith}
use Rattle.std.proofs.lemmas.List.Elements.{All-push}
use Rattle.wave_problem.specs.Wave.{split_at}
use Rattle.network_prices.proofs.Pending.{pending-same}
use Rattle.network_prices.proofs.Sources.{places-push}
use Rattle.network_prices.proofs.planning.pending_nodes.Goals as goal
use Rattle.network_prices.proofs.planning.pending_nodes.Goals.{then-is_pending+in_ok-push, else-is_pending}

pub loop-i-preserved : goal.loop-i-preserved
loop-i-preserved g c =
    let wave = c.args.problem.now in
    let layout = c.args.network.now.layout in
    let i = c.loop-i.i in
    let known : i < g.L.Layout.node_count layout = omega (arith, c.requires) in
    let number : c.new.result ≡ i = omega arith in
    elim c.if-is_pending.branch [
      | then-is_pending+in_ok-push w ↦
          (let same : w.node.result ≡ g.L.Layout.node_at layout i =
          w.node.ensures ∙ ap (λ l. g.L.Layout.node_at l i) c.layout-layout.ensures.value in
          let here = ap (g.L.Layout.index_of layout) same ∙ g.met.L.Layout.index_of_node layout i known in
          let member = ap (g.L.Layout.is_member layout) same ∙ g.met.L.Layout.node_is_member layout i known in
          let pending : (split_at wave i).pending ≡ true = search rules in
          let places = places-push (g.L.Layout.index_of layout) wave i c.loop-i.nodes.items w.node.result
          c.loop-i.invariant.0 pending here in
          let members = All-push (λ node. g.L.Layout.is_member layout node ≡ true) c.loop-i.nodes.items
          w.node.result c.loop-i.invariant.1 member in
          search rules)
      | else-is_pending w ↦ (let same = pending-same wave i in search rules)
    ]
