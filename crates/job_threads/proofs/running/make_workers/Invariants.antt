use Rattle.std.proofs.Common.{◌≡◌, ◌++◌, length, map}
use Rattle.job_threads.specs.Holdings.{upto}
use Rattle.job_threads.proofs.running.make_workers.Given as goal

abbrev pub invariant-loop-pass : goal.invariant-loop-pass
invariant-loop-pass g l = record {
  count : length l.all.items ≡ length l.yielded;
  seats : map (λ w. w.pulse.worker) l.all.items ≡ upto (length l.yielded);
  lanes : map (λ lane. lane.lane) l.caller.lanes.items
      ≡ map (λ lane. lane.lane) l.fn.caller.lanes.items ++ map (λ w. w.orders.lane) l.all.items;
}
