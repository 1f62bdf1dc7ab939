use Rattle.std.proofs.Common.{◌≡◌, take, length}
use Rattle.hand_ledger.specs.Marks.{Marks}
use Rattle.hand_ledger.specs.Settling.{all_calls}
use Rattle.hand_ledger.specs.declared.marks.TheConstants.{PLACES}
use Rattle.hand_ledger.proofs.settling.torn_from.Given as goal

abbrev pub invariant-loop-hand : goal.invariant-loop-hand
invariant-loop-hand g l =
    (length l.found ≡ PLACES) × Marks l.log l.first (all_calls (take l.hand-index l.hands)) l.found
