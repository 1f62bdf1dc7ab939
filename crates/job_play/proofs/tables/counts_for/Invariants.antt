use Rattle.std.proofs.Common.{◌≡◌, ◌-◌, ◌++◌, replicate, take}
use Rattle.job_play.proofs.tables.counts_for.Given as goal

abbrev pub invariant-loop-i : goal.invariant-loop-i
invariant-loop-i l = l.own.items ≡ take l.i l.counts ++ replicate (l.workers - l.i) 0
