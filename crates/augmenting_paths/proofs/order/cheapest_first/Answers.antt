use Rattle.std.proofs.Common.{ℕ, List, map, ap, ◌∙◌}
use Rattle.std.proofs.lemmas.Result.{IfOk-weaker}
use Rattle.augmenting_paths.proofs.Orders.{order_sorted}
use Rattle.augmenting_paths.proofs.order.cheapest_first.Goals as goal

pub returns : goal.returns
returns g c =
    IfOk-weaker c.nodes_of.result _ _ (λ _ nodes. order_sorted c.in_ok-keys.keys.items
    c.sort.new.self.items c.args.sources.now _ c.in_ok-keys.ensures c.sort.ensures.permutation
    (nodes ∙ ap (λ (ks : List (ℕ × ℕ)). map (λ p. p.1) ks) c.deref-2.ensures.value)) c.nodes_of.ensures
