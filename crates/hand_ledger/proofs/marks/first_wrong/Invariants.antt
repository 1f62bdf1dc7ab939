use Rattle.std.proofs.Common.{ℕ, ◌<◌}
use Rattle.hand_ledger.specs.Marks.{IsRight}
use Rattle.hand_ledger.proofs.marks.first_wrong.Given as goal

abbrev pub invariant-loop-n : goal.invariant-loop-n
invariant-loop-n l = (m : ℕ) → m < l.n → IsRight l.events l.notes l.first l.found m
