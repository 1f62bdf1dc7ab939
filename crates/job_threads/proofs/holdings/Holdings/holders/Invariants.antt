use Rattle.std.proofs.Common.{◌≡◌, ◌≤◌, take}
use Rattle.job_threads.specs.Holdings.{holders_of}
use Rattle.job_threads.proofs.holdings.Holdings.holders.Given as goal

-- how many of those before it
abbrev pub invariant-loop-holding : goal.invariant-loop-holding
invariant-loop-holding l =
    (l.count ≡ holders_of l.split (take l.holding-index l.holding-items)) × (l.count ≤ l.holding-index)
