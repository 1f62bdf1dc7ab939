use Rattle.std.proofs.Common.{◌≡◌, take}
use Rattle.job_threads.specs.Holdings.{with_all}
use Rattle.job_threads.proofs.holdings.put_all.Given as goal

abbrev pub invariant-loop-split : goal.invariant-loop-split
invariant-loop-split l = l.table ≡ with_all l.fn.table (take l.split-index l.splits)
