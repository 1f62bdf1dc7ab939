use Rattle.std.proofs.Common.{ap, arith, length, sym, subst}
use Rattle.wave_problem.specs.Assignment.{pairs_of, Plan}
use Rattle.wave_problem.specs.Wave.{IsUsable, Wave}
use Rattle.wave_planner.proofs.Costed.{pairs_few}
use Rattle.price_certificate.specs.Certificate.{claim, Certifies}
use Rattle.price_certificate.specs.PriceList.{PriceList}
use Rattle.master_core.proofs.kept_plan.plan_of.Goals as goal

pub known-requires-clause-certifies : goal.known-requires-clause-certifies
known-requires-clause-certifies c =
    subst (λ (x : Wave). Certifies (claim x c.in_ok-found.found.plan.starts c.in_ok-found.found.prices))
    (sym c.problem-2.ensures) c.in_ok-found.ensures.certifies

pub known-requires-clause-idle : goal.known-requires-clause-idle
known-requires-clause-idle c = λ w no.
    c.in_ok-found.ensures.idle w (subst (λ (x : Wave). IsUsable x.workers w → ⊥) c.problem-2.ensures no)

pub returns-clause-certifies : goal.returns-clause-certifies
returns-clause-certifies c =
    subst (λ (x : PriceList). Certifies (claim c.args.engine.now.wave c.known.result.plan.starts x))
    (sym c.known.ensures.prices)
    (subst (λ (x : Plan). Certifies (claim c.args.engine.now.wave x.starts c.in_ok-found.found.prices))
    (sym c.known.ensures.plan) c.in_ok-found.ensures.certifies)

pub returns-clause-few : goal.returns-clause-few
returns-clause-few c =
    let starts = c.in_ok-found.found.plan.starts in
    let wave = ap (λ (x : Wave). length x.splits) c.problem.ensures in
    let plan = ap (λ (x : Plan). length (pairs_of x.starts)) c.known.ensures.plan in
    omega (arith, pairs_few starts, c.in_ok-found.ensures.sizes.starts, wave, plan, c.limits.ensures.problem.few_splits)
