use Rattle.std.proofs.Common.{◌≡◌, length, replicate}
use Rattle.job_threads.specs.Holdings.{all_held, empty_handed}
use Rattle.job_threads.proofs.holdings.Holdings.of.Given as goal

abbrev pub invariant-loop-split : goal.invariant-loop-split
invariant-loop-split l =
    (l.holdings.workers.items
    ≡ all_held l.split l.cluster.splits
    (replicate (length l.cluster.slots) (empty_handed (length l.cluster.splits))))
    × (l.holdings.splits ≡ l.splits)
