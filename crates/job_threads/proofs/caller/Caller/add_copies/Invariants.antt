use Rattle.std.proofs.Common.{◌≡◌}
use Rattle.job_threads.specs.Chains.{EachBelow}
use Rattle.job_threads.specs.Steps.{IsCopied, known}
use Rattle.job_threads.proofs.caller.Caller.add_copies.Given as goal

abbrev pub invariant-loop-order : goal.invariant-loop-order
invariant-loop-order g l = record {
  each : EachBelow (IsCopied l.orders) l.order-index
      (known l.fn.self.holdings.workers.items l.fn.self.hand) (known l.self.holdings.workers.items l.self.hand);
  splits : l.self.holdings.splits ≡ l.fn.self.holdings.splits;
  same : l.self ≡ record l.fn.self { hand = l.self.hand; holdings = l.self.holdings };
}
