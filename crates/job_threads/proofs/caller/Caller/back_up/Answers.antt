use Rattle.std.proofs.Common.{refl}
use Rattle.job_threads.specs.Chains.{no_step, one_more}
use Rattle.job_threads.proofs.Chains.{backed_up_more}
use Rattle.job_threads.proofs.caller.Caller.back_up.Goals as goal

pub loop-split-init : goal.loop-split-init
loop-split-init g c = record { backup = no_step; idle = refl }

pub loop-split-preserved : goal.loop-split-preserved
loop-split-preserved g c = record {
  backup = one_more c.loop-split.invariant.backup
      (backed_up_more _ _ _ _ _ _ _ c.new.ensures c.in_ok-started.ensures.backup);
  idle = cc;
}
