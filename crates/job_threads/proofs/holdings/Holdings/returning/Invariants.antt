use Rattle.std.proofs.Common.{Some}
use Rattle.job_threads.specs.Holdings.{AreReturning}
use Rattle.job_threads.proofs.holdings.Holdings.returning.Given as goal

abbrev pub invariant-loop-split : goal.invariant-loop-split
invariant-loop-split l = AreReturning l.self.workers.items l.split (Some l.holding) l.set
