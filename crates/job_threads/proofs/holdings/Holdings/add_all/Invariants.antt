use Rattle.std.proofs.Common.{◌≡◌}
use Rattle.job_threads.specs.Holdings.{held_too}
use Rattle.job_threads.proofs.holdings.Holdings.add_all.Given as goal

abbrev pub invariant-loop-worker : goal.invariant-loop-worker
invariant-loop-worker l =
    (l.self.workers.items ≡ held_too l.split l.worker-index l.workers l.fn.self.workers.items)
    × (l.self.splits ≡ l.fn.self.splits)
