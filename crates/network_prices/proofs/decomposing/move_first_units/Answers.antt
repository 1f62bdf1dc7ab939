use Rattle.std.proofs.Common.{arith}
use Rattle.network_prices.proofs.Units.{none_moving, moving_past, moving_one}
use Rattle.network_prices.proofs.decomposing.move_first_units.Goals as goal
use Rattle.network_prices.proofs.decomposing.move_first_units.Goals.{then-places-i, else-places-i}

pub loop-i-init : goal.loop-i-init
loop-i-init c = none_moving c.args.places.now c.args.from c.args.to c.args.units c.requires.units

pub loop-i-preserved : goal.loop-i-preserved
loop-i-preserved c =
    let size = c.loop-i.invariant.size in
    let inside = c.loop-i-test.true in
    elim c.if-places-i.branch [
      | then-places-i w ↦ rw (w.places-is, w.left-is)
          (moving_one _ _ _ _ _ _ _ c.loop-i.invariant (omega arith) w.if-places-i.true c.if-left-eq0.false)
      | else-places-i w ↦ rw (w.places-is, w.left-is)
          (moving_past _ _ _ _ _ _ _ c.loop-i.invariant (omega arith) w.if-places-i.false)
    ]
