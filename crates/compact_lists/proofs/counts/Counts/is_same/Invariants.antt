use Rattle.std.proofs.Common.{◌≡◌, take}
use Rattle.compact_lists.proofs.counts.Counts.is_same.Given as goal

abbrev pub invariant-loop-worker : goal.invariant-loop-worker
invariant-loop-worker l = take l.worker l.self ≡ take l.worker l.other
