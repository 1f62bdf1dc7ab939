use Rattle.std.proofs.Common.{◌≡◌, ◌<◌, length}
use Rattle.plan_tests.proofs.small_problems.barred_pairs.Given as goal

abbrev pub invariant-loop-w : goal.invariant-loop-w
invariant-loop-w g l = (length l.barred ≡ 1024) × (l.s < 1024)

abbrev pub invariant-loop-s : goal.invariant-loop-s
invariant-loop-s g l = (length l.barred ≡ 1024)
