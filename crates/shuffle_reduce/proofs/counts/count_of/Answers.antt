use Rattle.std.proofs.Common.{arith, ◌<◌}
use Rattle.std.proofs.lemmas.Grind.{common_steps}
use Rattle.shuffle_reduce.specs.Merged.{PartView}
use Rattle.shuffle_reduce.proofs.IndexLemmas.{all_more}
use Rattle.shuffle_reduce.proofs.counts.count_of.Goals as goal

pub loop-result-preserved : goal.loop-result-preserved
loop-result-preserved c = record {
  value = grind (arith, common_steps);
  bound = grind (arith, common_steps);
  in_range = all_more (λ (one : PartView). one.part < one.parts) c.args.results.now
      c.loop-result.result-index c.loop-result-test.true c.result-item.is c.loop-result.invariant.in_range
      c.part.ensures.in_range;
}
