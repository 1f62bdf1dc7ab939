use Rattle.std.proofs.Common.{arith}
use Rattle.hand_ledger.proofs.Marking.{right_more}
use Rattle.hand_ledger.proofs.marks.first_wrong.Goals as goal

pub loop-n-preserved : goal.loop-n-preserved
loop-n-preserved c =
    right_more c.args.events c.args.notes c.args.first c.args.found.now c.loop-n.n (omega arith)
    (c.is_right.ensures.0 c.if-not-is_right.false) c.loop-n.invariant
