use Rattle.std.proofs.Common.{◌≡◌, false}
use Rattle.job_threads.specs.Chains.{EachBelow}
use Rattle.job_threads.specs.Steps.{IsStartSent, sent}
use Rattle.job_threads.proofs.caller.Caller.send_wave.Given as goal

abbrev pub invariant-loop-place : goal.invariant-loop-place
invariant-loop-place g l = record {
  sends : EachBelow (IsStartSent l.wave g.L.OfJob.setup.cluster.texts) l.place
      (sent l.fn.self.lanes.items l.fn.self.hand, false) (sent l.self.lanes.items l.self.hand, l.started);
  idle : l.self.idle ≡ l.fn.self.idle;
}
