use Rattle.std.proofs.Common.{◌≡◌, length}
use Rattle.plan_tests.proofs.clusters.pairs.Given as goal

abbrev pub invariant-loop-split : goal.invariant-loop-split
invariant-loop-split g l = (length l.barred ≡ 1024)
