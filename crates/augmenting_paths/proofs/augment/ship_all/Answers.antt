use Rattle.std.proofs.Common.{◌≡◌, length, get_or, refl, ◌∙◌, subst, arith}
use Rattle.std.proofs.lemmas.List.Sorted.{length_permutation}
use Rattle.augmenting_paths.specs.Shipping.{HasShipped}
use Rattle.augmenting_paths.proofs.Shipped.{cheapest}
use Rattle.augmenting_paths.proofs.Orders.{order_can, order_shipped, sources_in}
use Rattle.augmenting_paths.proofs.augment.ship_all.Goals as goal

pub shipping_order-requires : goal.shipping_order-requires
shipping_order-requires g c = sources_in c.requires.can

pub unshipped-requires-clause-can : goal.unshipped-requires-clause-can
unshipped-requires-clause-can g c = rw c.deref.ensures.value (order_can c.in_ok-order.ensures c.requires.can)

pub ship-requires-clause-next : goal.ship-requires-clause-next
ship-requires-clause-next g c =
    let size = length_permutation c.args.sources.now c.in_ok-order.order.items c.in_ok-order.ensures in
    let limit = c.requires.limit in
    let left = c.loop-count-test.true in
    let all = c.len-count-end.ensures in
    record {
      limit = rw c.deref-in-loop-count.ensures.value (omega arith);
      left = rw c.deref-in-loop-count.ensures.value (omega arith);
      can = rw (
        c.loop-count.invariant.layout,
        c.loop-count.invariant.arcs,
        c.deref-in-loop-count.ensures.value,
      )
          (order_can c.in_ok-order.ensures c.requires.can);
    }

pub ship-requires-clause-state : goal.ship-requires-clause-state
ship-requires-clause-state g c = rw c.deref-in-loop-count.ensures.value c.loop-count.invariant.state

pub loop-count-preserved : goal.loop-count-preserved
loop-count-preserved g c = record {
  arcs = c.ship.ensures.arcs ∙ c.loop-count.invariant.arcs;
  layout = c.ship.ensures.layout ∙ c.loop-count.invariant.layout;
  kept = c.in_ok-shipping-2.ensures.kept;
  state = rw c.deref-in-loop-count.ensures.value at c.in_ok-shipping-2.ensures.state;
}

pub returns-clause-shipped : goal.returns-clause-shipped
returns-clause-shipped g c =
    let size : c.loop-count.count ≡ length c.in_ok-order.order.items =
    (let past = c.loop-count-test.false in let most = c.loop-count.auto.count-end in
    let all = c.len-count-end.ensures in omega arith) in
    order_shipped c.in_ok-order.ensures
    (subst (λ n. HasShipped c.args.network.now.arcs c.in_ok-order.order.items c.args.sink n
    c.loop-count.network.flows (λ v. get_or c.loop-count.shipping.potentials v 0))
    size (rw c.loop-count.invariant.arcs at c.loop-count.invariant.state))

pub returns-clause-cheapest : goal.returns-clause-cheapest
returns-clause-cheapest g c =
    cheapest _ _ _ _ _ _ _ refl c.requires.can.arcs_in
    (rw c.loop-count.invariant.arcs at c.loop-count.invariant.kept.limits.within)
    (returns-clause-shipped g c)
