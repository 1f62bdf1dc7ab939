use Rattle.std.proofs.Common.{[], ℕ, List, subst}
use Rattle.std.specs.Prelude.{IfOk}
use Rattle.std.proofs.lemmas.Result.{IfOk-weaker}
use Rattle.wave_problem.specs.Assignment.{pairs_of}
use Rattle.price_certificate.specs.Certificate.{charged_claim, Certifies}
use Rattle.price_certificate.specs.Places.{IsBestByCharge}
use Rattle.price_certificate.proofs.Covered.{best-plain}
use Rattle.tree_planner.proofs.engine.plan.Goals as goal

pub returns-clause-certifies : goal.returns-clause-certifies
returns-clause-certifies c =
    subst (λ (ps : List (List ℕ)). IfOk c.plan_places.result
    (λ pair. Certifies (charged_claim c.args.problem.now ps pair.0.starts pair.1))) c.free-places.ensures
    c.plan_places.ensures.certifies

pub returns-clause-best : goal.returns-clause-best
returns-clause-best c =
    let wave = c.args.problem.now in
    IfOk-weaker c.plan_places.result (λ pair. IsBestByCharge [] wave (pairs_of pair.0.starts)) _
    (λ pair best. best-plain wave (pairs_of pair.0.starts) best)
    (subst (λ (ps : List (List ℕ)). IfOk c.plan_places.result
    (λ pair. IsBestByCharge ps wave (pairs_of pair.0.starts))) c.free-places.ensures c.plan_places.ensures.best)
