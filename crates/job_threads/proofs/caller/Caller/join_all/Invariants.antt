use Rattle.std.proofs.Common.{◌≡◌, false}
use Rattle.job_threads.specs.Chains.{EachBelow}
use Rattle.job_threads.specs.Steps.{IsBackIf, known}
use Rattle.job_threads.proofs.caller.Caller.join_all.Given as goal

abbrev pub invariant-loop-worker : goal.invariant-loop-worker
invariant-loop-worker g l = record {
  joined : EachBelow (IsBackIf l.fn.self.watch.told l.fn.self.holdings.splits) l.worker
      (known l.fn.self.holdings.workers.items l.fn.self.hand, false)
      (known l.self.holdings.workers.items l.self.hand, l.rose);
  splits : l.self.holdings.splits ≡ l.fn.self.holdings.splits;
  same : l.self ≡ record l.fn.self { hand = l.self.hand; holdings = l.self.holdings };
}
