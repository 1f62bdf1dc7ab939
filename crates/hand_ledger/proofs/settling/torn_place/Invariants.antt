use Rattle.std.proofs.Common.{ℕ, ◌*◌, ◌<◌}
use Rattle.hand_ledger.specs.Settling.{AgreesAt}
use Rattle.hand_ledger.specs.declared.marks.TheConstants.{PLACES}
use Rattle.hand_ledger.proofs.settling.torn_place.Given as goal

abbrev pub invariant-loop-piece : goal.invariant-loop-piece
invariant-loop-piece g l = (place : ℕ) → place < l.piece * PLACES → AgreesAt l.log l.is_short l.hands place
