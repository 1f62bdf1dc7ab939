use Rattle.std.proofs.Common.{arith}
use Rattle.rack_network.proofs.Rows.{slot_step}
use Rattle.rack_network.proofs.network.add_slots.Goals as goal

pub loop-i-preserved : goal.loop-i-preserved
loop-i-preserved c =
    slot_step c.args.problem.now c.loop-i.i c.new.result _ _ c.loop-i.network c.add.new.network (omega arith)
    (omega arith) (omega arith) c.loop-i.invariant c.in_ok-add.ensures
