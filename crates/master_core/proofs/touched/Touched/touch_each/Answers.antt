use Rattle.std.proofs.Common.{arith, subst}
use Rattle.std.specs.Prelude.{All}
use Rattle.std.proofs.lemmas.List.{take_all}
use Rattle.shuffle_reduce.proofs.IndexLemmas.{all_more}
use Rattle.master_core.specs.Near.{IsTouched, IsWorkerTouched}
use Rattle.master_core.proofs.Touching.{stays_then}
use Rattle.master_core.proofs.touched.Touched.touch_each.Goals as goal

pub loop-pair-preserved : goal.loop-pair-preserved
loop-pair-preserved c = record {
  splits = all_more (λ pair. IsTouched c.touch.new.self pair.0) c.args.pairs.now c.loop-pair.pair-index
      c.loop-pair-test.true c.pair-item.is
      (λ k pair found. c.touch.ensures.before.splits _ (c.loop-pair.invariant.splits k pair found))
      c.touch.ensures.split;
  workers = all_more (λ pair. IsWorkerTouched c.touch.new.self pair.1) c.args.pairs.now c.loop-pair.pair-index
      c.loop-pair-test.true c.pair-item.is
      (λ k pair found. c.touch.ensures.before.workers _ (c.loop-pair.invariant.workers k pair found))
      c.touch.ensures.worker;
  before = stays_then _ _ _ c.loop-pair.invariant.before c.touch.ensures.before;
}

pub returns-clause-splits : goal.returns-clause-splits
returns-clause-splits c =
    subst (All (λ pair. IsTouched c.loop-pair.self pair.0)) (take_all c.loop-pair.pair-index c.args.pairs.now
    (omega arith)) c.loop-pair.invariant.splits

pub returns-clause-workers : goal.returns-clause-workers
returns-clause-workers c =
    subst (All (λ pair. IsWorkerTouched c.loop-pair.self pair.1)) (take_all c.loop-pair.pair-index c.args.pairs.now
    (omega arith)) c.loop-pair.invariant.workers
