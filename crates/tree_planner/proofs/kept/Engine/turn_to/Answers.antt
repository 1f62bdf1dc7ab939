use Rattle.std.proofs.Common.{◌∙◌, ap, sym, subst}
use Rattle.std.proofs.lemmas.Bool.{false≢true}
use Rattle.wave_problem.specs.Wave.{Wave}
use Rattle.tree_planner.specs.SearchingBack.{IsBlank}
use Rattle.tree_planner.proofs.kept.Engine.turn_to.Goals as goal

pub invariant_of-self : goal.invariant_of-self
invariant_of-self c = (
  c.turn_to.ensures.fixed,
  c.turn_to.ensures.standing,
  subst (λ (x : Wave). IsBlank x.tree c.self.inside.search_back) (sym c.in_err-turn_to.ensures.err_wave)
      c.self.invariant.2,
  λ is. absurd (false≢true is),
)

pub invariant_of-self-then-is_like : goal.invariant_of-self-then-is_like
invariant_of-self-then-is_like c = (
  c.turn_to.ensures.fixed,
  c.turn_to.ensures.standing,
  subst (λ t. IsBlank t c.self.inside.search_back)
      (sym (ap (λ (x : Wave). x.tree) c.in_ok-turn_to.ensures.wave
      ∙ (c.is_like.ensures c.if-is_like.true).tree)) c.self.invariant.2,
  λ is. absurd (false≢true is),
)
