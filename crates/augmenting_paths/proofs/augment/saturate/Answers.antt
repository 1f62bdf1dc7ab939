use Rattle.std.proofs.Common.{◌≡◌, map, ap, ◌∙◌}
use Rattle.augmenting_paths.proofs.augment.saturate.Goals as goal

pub returns-clause-cheapest : goal.returns-clause-cheapest
returns-clause-cheapest g c =
    let end : c.index-end.result ≡ g.L.Layout.index_of c.args.network.now.layout c.args.sink =
    c.index-end.ensures ∙ ap (λ l. g.L.Layout.index_of l c.args.sink) c.layout.ensures.value in
    let starts : c.in_ok-starts.starts.items
    ≡ map (g.L.Layout.index_of c.args.network.now.layout) c.args.sources.now =
    c.in_ok-starts.ensures
    ∙ ap (λ l. map (g.L.Layout.index_of l) c.args.sources.now) c.layout-2.ensures.value in
    rw (c.deref.ensures.value, starts, end) at c.ship_all.ensures.cheapest
