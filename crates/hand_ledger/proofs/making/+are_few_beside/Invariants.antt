use Rattle.std.proofs.Common.{length}
use Rattle.hand_ledger.proofs.making.+are_few_beside.Given as goal

abbrev pub decreases-are_few_beside : goal.decreases-are_few_beside
decreases-are_few_beside g l = length l.hands.now
