use Rattle.std.proofs.Common.{arith, ap, length}
use Rattle.lane_queue.specs.declared.view.View.{View}
use Rattle.lane_queue.proofs.Keeps.{takes, totals}
use Rattle.lane_queue.proofs.lane.Lane.take.Goals as goal

pub pop_as-requires-clause-rule : goal.pop_as-requires-clause-rule
pop_as-requires-clause-rule g c =
    (takes _ _ (omega (arith, ap (λ (v : View). length v.depths) c.pass.invariant.1)), totals _ _)
