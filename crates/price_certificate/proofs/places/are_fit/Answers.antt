use Rattle.std.proofs.Common.{◌≡◌, ◌∙◌, Vec, Global, ℕ, sym, subst, refl, ap, inl, inr, arith}
use Rattle.std.proofs.lemmas.Bool.{cases_lt, false≢true}
use Rattle.std.proofs.lemmas.List.{get_or_default}
use Rattle.price_certificate.specs.Places.{IsFitRow}
use Rattle.price_certificate.proofs.places.are_fit.Goals as goal

pub returns-then-not-is_fit : goal.returns-then-not-is_fit
returns-then-not-is_fit c = (
  λ wrong. absurd (false≢true wrong),
  λ fit.
      let row = c.index-rows-i.result in
      let here = fit c.loop-i.i row c.loop-i-test.true in
      let same = sym (c.deref.ensures.value ∙ ap (λ (v : Vec ℕ Global). v.items) c.index-rows-i.is) in
      sym c.if-not-is_fit.true ∙ c.is_fit.ensures.1 (subst IsFitRow same here),
)

pub loop-i-preserved : goal.loop-i-preserved
loop-i-preserved c = λ k d below. elim (cases_lt k c.loop-i.i) [
  | inl less ↦ c.loop-i.invariant k d less
  | inr past ↦
      let row = c.index-rows-i.result in
      let at : k ≡ c.loop-i.i = omega arith in
      let fit = c.is_fit.ensures.0 c.if-not-is_fit.false in
      let same = c.deref.ensures.value
      ∙ ap (λ (v : Vec ℕ Global). v.items)
      (c.index-rows-i.is ∙ get_or_default c.args.rows.now c.loop-i.i row d c.loop-i-test.true) in
      rw at (subst IsFitRow same fit)
]

pub returns : goal.returns
returns c = (λ yes k d within. c.loop-i.invariant k d (omega (arith, c.loop-i-test.false)), λ fit. refl)
