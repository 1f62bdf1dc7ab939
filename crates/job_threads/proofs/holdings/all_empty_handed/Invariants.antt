use Rattle.std.proofs.Common.{◌≡◌, replicate}
use Rattle.std.specs.Vec.{vec_capacity, vec_len}
use Rattle.job_threads.specs.Holdings.{empty_handed}
use Rattle.job_threads.proofs.holdings.all_empty_handed.Given as goal

abbrev pub invariant-loop-worker : goal.invariant-loop-worker
invariant-loop-worker l = record {
  all : l.all.items ≡ replicate l._worker (empty_handed l.splits);
  size : vec_len l.all ≡ l._worker;
  room : vec_capacity l.all ≡ l.workers;
}
