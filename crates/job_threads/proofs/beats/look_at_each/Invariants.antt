use Rattle.std.proofs.Common.{◌≡◌, length}
use Rattle.job_threads.proofs.Looking.{AreSoFar}
use Rattle.job_threads.proofs.beats.look_at_each.Given as goal

abbrev pub invariant-loop-worker : goal.invariant-loop-worker
invariant-loop-worker l = record {
  board : l.reader.board ≡ l.board.board;
  size : length l.counts.items ≡ length l.fn.counts.items;
  looks : AreSoFar l.fn.reader.looks l.worker l.counts.items l.reader.looks;
}
