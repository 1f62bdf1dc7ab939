use Rattle.std.proofs.Common.{◌<◌, below_more, arith}
use Rattle.std.proofs.lemmas.Bool.{false≢true}
use Rattle.shuffle_reduce.proofs.IndexLemmas.{part_in_range}
use Rattle.shuffle_reduce.proofs.counts.has_double.Goals as goal

pub loop-part-preserved : goal.loop-part-preserved
loop-part-preserved c = record {
  single = below_more _ _ c.loop-part.invariant.single (omega (arith, c.count_of.ensures.value));
  in_range = λ some. c.count_of.ensures.in_range;
}

-- a part that stands twice is one of the parts, so it was counted
pub returns : goal.returns
returns c = (
  (λ h. absurd (false≢true h)),
  (λ m.
      let some : 0 < c.loop-part.part = omega (arith, c.requires.some, c.loop-part-test.false) in
      let low : m.0 < c.args.parts =
      part_in_range c.args.results.now c.args.parts m.0 (c.loop-part.invariant.in_range some)
      c.requires.same (omega (arith, m.1)) in
      let counted : m.0 < c.loop-part.part = omega (arith, c.loop-part-test.false) in
      absurd (omega (arith, c.loop-part.invariant.single m.0 counted, m.1))),
)
