use Rattle.std.proofs.Common.{◌≡◌, Ok}
use Rattle.job_threads.proofs.threads.fn.run_threads.scope.Given as goal

abbrev pub invariant-loop-worker : goal.invariant-loop-worker
invariant-loop-worker g l = l.end ≡ Ok tt
