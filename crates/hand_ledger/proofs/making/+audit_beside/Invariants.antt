use Rattle.std.proofs.Common.{length}
use Rattle.hand_ledger.proofs.making.+audit_beside.Given as goal

abbrev pub decreases-audit_beside : goal.decreases-audit_beside
decreases-audit_beside g l = length l.hands.now
