use Rattle.std.proofs.Common.{take}
use Rattle.std.specs.Prelude.{All}
use Rattle.hand_ledger.specs.Settling.{AreTrue}
use Rattle.hand_ledger.proofs.settling.are_true.Given as goal

abbrev pub invariant-loop-hand : goal.invariant-loop-hand
invariant-loop-hand g l = All (AreTrue l.is_short) (take l.hand-index l.hands)
