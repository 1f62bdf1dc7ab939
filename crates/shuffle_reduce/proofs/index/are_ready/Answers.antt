use Rattle.std.proofs.Common.{◌≡◌, refl}
use Rattle.std.proofs.lemmas.Bool.{false≢true}
use Rattle.shuffle_reduce.specs.Gather.{values_of}
use Rattle.shuffle_reduce.specs.Merged.{AreSameTexts, PartView}
use Rattle.shuffle_reduce.proofs.IndexLemmas.{all_at, all_more}
use Rattle.shuffle_reduce.proofs.index.are_ready.Goals as goal

pub loop-one-preserved : goal.loop-one-preserved
loop-one-preserved c =
    let here = c.if-not-is_ready.ensures.0 refl in
    record {
      covers = all_more (λ (one : PartView). AreSameTexts one.texts
          (values_of c.args.texts.now)) c.args.results.now c.loop-one.one-index c.loop-one-test.true
          c.one-item.is c.loop-one.invariant.covers here.0;
      same = all_more
          (λ (one : PartView).
          one.parts ≡ c.args.parts) c.args.results.now c.loop-one.one-index c.loop-one-test.true
          c.one-item.is c.loop-one.invariant.same here.1;
    }

-- a result is not ready, so not all are
pub returns-then-not-is_ready : goal.returns-then-not-is_ready
returns-then-not-is_ready c = (
  (λ no. absurd (false≢true no)),
  (λ ready. c.if-not-is_ready.ensures.1 (
    all_at (λ (one : PartView). AreSameTexts one.texts
        (values_of c.args.texts.now)) c.args.results.now c.loop-one.one-index c.loop-one-test.true
        c.one-item.is ready.covers,
    all_at (λ
        (one : PartView). one.parts ≡ c.args.parts) c.args.results.now c.loop-one.one-index
        c.loop-one-test.true c.one-item.is ready.same,
  )),
)
