use Rattle.std.proofs.Common.{◌∙◌, refl, arith}
use Rattle.job_threads.specs.Chains.{no_step, one_more}
use Rattle.job_threads.proofs.caller.Caller.add_copies.Goals as goal

pub loop-order-init : goal.loop-order-init
loop-order-init g c = record { each = no_step; splits = refl; same = refl }

pub loop-order-preserved : goal.loop-order-preserved
loop-order-preserved g c = record {
  each = one_more c.loop-order.invariant.each (record {
    order = c.order-item.result;
    within = omega arith;
    is = c.order-item.is;
    added = c.in_ok-add.ensures.added;
  });
  splits = cc;
  same = c.add.ensures.same
      ∙ (λ k. record (c.loop-order.invariant.same k) {
        hand = c.add.new.self.hand;
        holdings = c.add.new.self.holdings;
      });
}
