use Rattle.network_prices.proofs.Units.{enough_stand, handed_on}
use Rattle.network_prices.proofs.decomposing.decompose_flow.Goals as goal

pub hand_on-requires-clause-units : goal.hand_on-requires-clause-units
hand_on-requires-clause-units c =
    enough_stand c.args.arcs.now c.args.flows.now c.args.sink c.args.places.now c.loop-k.places c.requires
    c.loop-k.k c.loop-k-test.true c.loop-k.invariant.handed

pub loop-k-preserved : goal.loop-k-preserved
loop-k-preserved c = record {
  can = c.requires;
  handed =
      handed_on c.args.arcs.now c.args.flows.now c.args.sink c.args.places.now c.loop-k.places c.requires
      c.loop-k.k c.loop-k-test.true c.loop-k.invariant.handed c.hand_on.new.places
      c.hand_on.ensures.on c.hand_on.ensures.stay;
}
