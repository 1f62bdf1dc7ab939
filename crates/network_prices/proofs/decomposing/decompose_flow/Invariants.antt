use Rattle.network_prices.specs.HandOn.{CanHandOn, IsHandedOn}
use Rattle.network_prices.proofs.decomposing.decompose_flow.Given as goal

abbrev pub invariant-loop-k : goal.invariant-loop-k
invariant-loop-k l = record {
  can : CanHandOn l.arcs l.flows l.sink l.initial.places;
  handed : IsHandedOn l.arcs l.flows l.sink l.initial.places l.places l.k;
}
