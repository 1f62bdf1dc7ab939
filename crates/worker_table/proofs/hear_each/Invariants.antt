use Rattle.std.proofs.Common.{◌≡◌, take, drop, ◌++◌}
use Rattle.worker_table.specs.Workers.{heard_from}
use Rattle.worker_table.proofs.hear_each.Given as goal

-- what has been heard so far, and what will be of the rest
abbrev pub invariant-loop-i : goal.invariant-loop-i
invariant-loop-i l =
    take l.i l.workers.items ++ heard_from l.i l.limit (drop l.i l.workers.items) l.counts
    ≡ heard_from 0 l.limit l.fn.workers.items l.counts
