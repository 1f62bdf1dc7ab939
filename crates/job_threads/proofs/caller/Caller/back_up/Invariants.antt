use Rattle.std.proofs.Common.{◌≡◌, false}
use Rattle.job_threads.specs.Chains.{EachBelow}
use Rattle.job_threads.specs.Steps.{IsBackedUpToo, sent}
use Rattle.job_threads.proofs.caller.Caller.back_up.Given as goal

abbrev pub invariant-loop-split : goal.invariant-loop-split
invariant-loop-split g l = record {
  backup : EachBelow (IsBackedUpToo g.L.OfJob.setup) l.split (sent l.fn.self.lanes.items l.fn.self.hand, false)
      (sent l.self.lanes.items l.self.hand, l.started);
  idle : l.self.idle ≡ l.fn.self.idle;
}
