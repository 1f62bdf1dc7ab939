use Rattle.std.proofs.Common.{[], subst}
use Rattle.std.specs.Prelude.{IfOk}
use Rattle.std.proofs.lemmas.Result.{IfOk-weaker}
use Rattle.wave_problem.specs.Assignment.{pairs_of, IsBest}
use Rattle.price_certificate.specs.Certificate.{claim, Certifies}
use Rattle.price_certificate.specs.Places.{IsBestByCharge}
use Rattle.price_certificate.proofs.Covered.{best-plain}
use Rattle.tree_planner.specs.Shown.{Shown}
use Rattle.tree_planner.proofs.Standing.{held, no_rows, plain_terms}
use Rattle.tree_planner.proofs.kept.Engine.found.Goals as goal

pub read_off-requires-clause-held : goal.read_off-requires-clause-held
read_off-requires-clause-held c =
    let e = c.self.inside in
    held e.problem e.tables c.self.invariant.1 e.fixed c.self.invariant.0

pub returns-clause-certifies : goal.returns-clause-certifies
returns-clause-certifies c =
    subst (λ (x : Shown). IfOk c.read_off.result (λ found. Certifies (claim x.wave found.plan.starts found.prices)))
    c.self.view_is
    (c.read_off.ensures.certifies [] (plain_terms c.self.inside.problem c.self.inside.tables c.self.invariant.1))

pub returns-clause-best : goal.returns-clause-best
returns-clause-best c =
    let wave = c.self.inside.problem in
    subst (λ (x : Shown). IfOk c.read_off.result (λ found. IsBest x.wave (pairs_of found.plan.starts))) c.self.view_is
    (IfOk-weaker c.read_off.result (λ found. IsBestByCharge [] wave (pairs_of found.plan.starts))
    (λ found. IsBest wave (pairs_of found.plan.starts))
    (λ found best. best-plain wave (pairs_of found.plan.starts) best)
    (c.read_off.ensures.best [] no_rows (plain_terms wave c.self.inside.tables c.self.invariant.1)))
