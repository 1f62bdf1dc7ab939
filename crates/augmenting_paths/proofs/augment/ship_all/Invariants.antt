use Rattle.std.proofs.Common.{◌≡◌, get_or}
use Rattle.augmenting_paths.specs.NextUnit.{AreKept}
use Rattle.augmenting_paths.specs.Shipping.{HasShipped}
use Rattle.augmenting_paths.proofs.augment.ship_all.Given as goal

abbrev pub invariant-loop-count : goal.invariant-loop-count
invariant-loop-count g l = record {
  arcs : l.network.arcs ≡ l.fn.network.arcs;
  layout : l.network.layout ≡ l.fn.network.layout;
  kept : AreKept g.L.Layout.node_count l.network l.sink l.count l.shipping;
  state : HasShipped l.network.arcs l.order.items l.sink l.count l.network.flows
      (λ v. get_or l.shipping.potentials v 0);
}
