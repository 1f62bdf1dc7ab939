use Rattle.std.proofs.Common.{◌+◌, ◌*◌, length, arith}
use Rattle.direct_network.proofs.Rows.{slot_step}
use Rattle.direct_network.proofs.network.add_workers.Goals as goal

pub loop-i-preserved : goal.loop-i-preserved
loop-i-preserved c =
    slot_step c.args.problem.now c.loop-i.i c.new.result (257 * length c.args.problem.now.splits + c.loop-i.i)
    (257 * length c.args.problem.now.splits + (c.loop-i.i + 1)) c.loop-i.network c.add.new.network
    (omega arith) (omega arith) (omega arith) c.loop-i.invariant
    c.in_ok-add.ensures
