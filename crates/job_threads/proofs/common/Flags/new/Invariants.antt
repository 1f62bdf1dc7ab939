use Rattle.std.proofs.Common.{◌≡◌}
use Rattle.std.specs.List.{range_with_len}
use Rattle.std.specs.Vec.{vec_capacity, vec_len}
use Rattle.job_threads.proofs.common.Flags.new.Given as goal

abbrev pub invariant-loop-worker : goal.invariant-loop-worker
invariant-loop-worker l = record {
  all : l.flags.items ≡ range_with_len 0 l.worker;
  size : vec_len l.flags ≡ l.worker;
  room : vec_capacity l.flags ≡ l.workers;
}
