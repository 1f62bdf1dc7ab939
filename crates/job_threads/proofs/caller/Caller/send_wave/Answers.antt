use Rattle.std.proofs.Common.{arith, refl}
use Rattle.job_threads.specs.Chains.{no_step, one_more}
use Rattle.job_threads.proofs.Chains.{start_more}
use Rattle.job_threads.proofs.caller.Caller.send_wave.Goals as goal

pub loop-place-init : goal.loop-place-init
loop-place-init g c = record { sends = no_step; idle = refl }

pub loop-place-preserved : goal.loop-place-preserved
loop-place-preserved g c = record {
  sends = one_more c.loop-place.invariant.sends
      (start_more c.args.wave.now _ _ _ c.index.result.now _ _ _ _ (omega arith) c.index.ensures
      (omega (arith, c.new-attempt.ensures, c.index-first.ensures)) c.in_ok-started.ensures.sends);
  idle = cc;
}
