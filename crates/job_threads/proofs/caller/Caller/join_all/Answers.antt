use Rattle.std.proofs.Common.{◌≡◌, ◌∙◌, refl}
use Rattle.job_threads.specs.Chains.{no_step, one_more}
use Rattle.job_threads.proofs.Chains.{back_more}
use Rattle.job_threads.proofs.caller.Caller.join_all.Goals as goal

pub loop-worker-init : goal.loop-worker-init
loop-worker-init g c = record { joined = no_step; splits = refl; same = refl }

pub loop-worker-preserved : goal.loop-worker-preserved
loop-worker-preserved g c =
    let told : c.loop-worker.self.watch.told ≡ c.args.self.now.watch.told =
    λ k. (c.loop-worker.invariant.same k).watch.told in
    let splits = c.loop-worker.invariant.splits in
    record {
      joined = one_more c.loop-worker.invariant.joined
          (back_more _ _ _ _ _ _ _ _ _ _ told splits c.new.ensures c.in_ok-rose.ensures.rose
          c.in_ok-rose.ensures.joined);
      splits = cc;
      same = c.join_if.ensures.same
          ∙ (λ k. record (c.loop-worker.invariant.same k) {
            hand = c.join_if.new.self.hand;
            holdings = c.join_if.new.self.holdings;
          });
    }
