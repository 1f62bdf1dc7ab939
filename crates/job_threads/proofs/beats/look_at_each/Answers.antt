use Rattle.std.proofs.Common.{refl}
use Rattle.job_threads.proofs.Looking.{so_far_none}
use Rattle.job_threads.proofs.beats.look_at_each.Goals as goal

pub loop-worker-init : goal.loop-worker-init
loop-worker-init c = record {
  board = c.requires.board;
  size = refl;
  looks = so_far_none c.args.reader.now.looks c.args.counts.now.items;
}
