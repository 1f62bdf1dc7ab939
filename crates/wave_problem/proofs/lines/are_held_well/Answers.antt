use Rattle.std.proofs.Common.{arith, sym, refl, ◌∙◌}
use Rattle.std.proofs.lemmas.Bool.{false≢true}
use Rattle.wave_problem.proofs.Made.{held_more, held_one}
use Rattle.wave_problem.proofs.lines.are_held_well.Goals as goal

pub returns-then-not-is_held_well : goal.returns-then-not-is_held_well
returns-then-not-is_held_well c = (
  λ wrong. absurd (false≢true wrong),
  λ held. sym c.if-not-is_held_well.true ∙ c.is_held_well.ensures.1
      (held_one _ _ _ _ c.loop-i-test.true c.index-splits-i.is held),
)

pub loop-i-preserved : goal.loop-i-preserved
loop-i-preserved c =
    held_more _ _ _ _ c.loop-i-test.true c.index-splits-i.is
    (c.is_held_well.ensures.0 c.if-not-is_held_well.false) c.loop-i.invariant

pub returns : goal.returns
returns c = (λ yes k d lt. c.loop-i.invariant k d (omega (arith, c.loop-i-test.false)), λ held. refl)
