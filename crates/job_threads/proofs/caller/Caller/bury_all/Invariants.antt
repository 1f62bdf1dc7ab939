use Rattle.std.proofs.Common.{◌≡◌}
use Rattle.job_threads.specs.Holdings.{all_buried}
use Rattle.job_threads.proofs.caller.Caller.bury_all.Given as goal

abbrev pub invariant-loop-i : goal.invariant-loop-i
invariant-loop-i g l = record {
  workers : l.self.holdings.workers.items
      ≡ all_buried l.fn.self.dead l.fn.self.watch.told l.i l.fn.self.holdings.workers.items;
  splits : l.self.holdings.splits ≡ l.fn.self.holdings.splits;
  same : l.self ≡ record l.fn.self { holdings = l.self.holdings };
}
