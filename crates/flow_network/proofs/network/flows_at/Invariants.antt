use Rattle.std.proofs.Common.{◌≡◌, ◌*◌, ◌≤◌, take}
use Rattle.flow_network.specs.Flows.{inflow, outflow}
use Rattle.flow_network.proofs.network.flows_at.Given as goal

abbrev pub invariant-loop-k : goal.invariant-loop-k
invariant-loop-k l = record {
  inflow : l.gained ≡ inflow (take l.k l.arcs) (take l.k l.flows) l.node;
  outflow : l.given ≡ outflow (take l.k l.arcs) (take l.k l.flows) l.node;
  most : (l.gained ≤ 4096 * l.k) × (l.given ≤ 4096 * l.k);
}
