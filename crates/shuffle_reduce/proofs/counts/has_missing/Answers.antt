use Rattle.std.proofs.Common.{◌<◌, ◌∙◌, below_more, arith}
use Rattle.std.proofs.lemmas.Bool.{false≢true}
use Rattle.shuffle_reduce.proofs.counts.has_missing.Goals as goal

pub loop-part-preserved : goal.loop-part-preserved
loop-part-preserved c =
    below_more _ _ c.loop-part.invariant (λ none. c.if-count_of-eq0.false (c.count_of.ensures.value ∙ none))

pub returns : goal.returns
returns c = (
  (λ h. absurd (false≢true h)),
  (λ m. let low : m.0 < c.loop-part.part =
      omega (arith, m.1, c.loop-part-test.false) in absurd (c.loop-part.invariant m.0 low m.2)),
)
