use Rattle.std.proofs.lemmas.Result.{on_err_weaker, on_ok_weaker}
use Rattle.command_runner.proofs.Waiting.{both_moved, front_after}
use Rattle.command_runner.proofs.pieces.Piece.put.Goals as goal

pub returns-then-bytes-len-clause-ok : goal.returns-then-bytes-len-clause-ok
returns-then-bytes-len-clause-ok g c = on_ok_weaker c.write_text.result
    (λ written. rw c.hand_on.ensures.none
    (both_moved _ _ _ c.args.self.now c.args.bytes.now c.in_ok-hand_on.ensures.ok written))
    c.write_text.ensures.ok

pub returns-then-bytes-len-clause-err : goal.returns-then-bytes-len-clause-err
returns-then-bytes-len-clause-err g c = on_err_weaker c.write_text.result
    (front_after _ _ _ c.args.self.now c.args.bytes.now c.in_ok-hand_on.ensures.ok) c.write_text.ensures.err
