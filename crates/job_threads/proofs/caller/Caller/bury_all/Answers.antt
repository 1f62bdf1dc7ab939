use Rattle.std.proofs.Common.{◌≡◌, ◌<◌, ◌∙◌, ap, arith, length, refl, sym}
use Rattle.job_threads.proofs.Chains.{all_buried_zero, one_buried}
use Rattle.job_threads.proofs.caller.Caller.bury_all.Goals as goal

pub loop-i-init : goal.loop-i-init
loop-i-init g c = record { workers = sym (all_buried_zero _ _ _); splits = refl; same = refl }

pub loop-i-preserved : goal.loop-i-preserved
loop-i-preserved g c =
    let same = c.loop-i.invariant.same in
    let told : c.loop-i.self.watch.told ≡ c.args.self.now.watch.told = λ k. (same k).watch.told in
    let dead : c.loop-i.self.dead ≡ c.args.self.now.dead = λ k. (same k).dead in
    let inside : c.loop-i.i < length c.args.self.now.dead =
    omega (arith, c.loop-i-test.true, ap length c.workers-count.ensures) in
    record {
      workers = one_buried _ _ _ _ _ _ _ _ _ c.loop-i.invariant.workers told (c.workers.ensures ∙ dead) inside
          c.index-workers-i.is c.bury.ensures.value;
      splits = c.bury.ensures.splits ∙ c.loop-i.invariant.splits;
      same = c.bury.ensures.same ∙ (λ k. record (same k) { holdings = c.bury.new.self.holdings });
    }
