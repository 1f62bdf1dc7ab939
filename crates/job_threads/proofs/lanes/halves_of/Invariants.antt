use Rattle.std.proofs.Common.{◌≡◌}
use Rattle.job_threads.proofs.lanes.halves_of.Given as goal

abbrev pub invariant-loop-end : goal.invariant-loop-end
invariant-loop-end g l = l.halves.items ≡ l.yielded
