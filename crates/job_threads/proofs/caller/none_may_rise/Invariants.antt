use Rattle.std.proofs.Common.{◌≡◌, true, take}
use Rattle.job_threads.specs.Turns.{none_may_rise}
use Rattle.job_threads.proofs.caller.none_may_rise.Given as goal

abbrev pub invariant-loop-worker : goal.invariant-loop-worker
invariant-loop-worker l = none_may_rise (take l.worker-index l.workers) ≡ true
