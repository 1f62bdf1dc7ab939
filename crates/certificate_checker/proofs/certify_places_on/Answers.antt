use Rattle.std.proofs.Common.{subst}
use Rattle.std.specs.Prelude.{IfOk}
use Rattle.price_certificate.specs.Certificate.{Claim, IsFirstFailure, charged_claim}
use Rattle.price_certificate.proofs.Duality.{certified-best_by_charge}
use Rattle.certificate_checker.specs.Verdict.{IfFailed, IsCertified}
use Rattle.certificate_checker.proofs.Verdicts.{certified-so, verdict-same}
use Rattle.certificate_checker.proofs.certify_places_on.Goals as goal

pub returns-clause-certified : goal.returns-clause-certified
returns-clause-certified g c =
    subst (λ (z : Claim). IfOk c.verdict_on.result (IsCertified z)) c.new-checker.ensures.value
    c.verdict_on.ensures.certified

pub returns-clause-failed : goal.returns-clause-failed
returns-clause-failed g c =
    subst (λ (z : Claim). IfFailed c.verdict_on.result (IsFirstFailure z)) c.new-checker.ensures.value
    c.verdict_on.ensures.failed

pub returns-clause-best : goal.returns-clause-best
returns-clause-best g c =
    let made : Claim =
    charged_claim c.args.problem.now c.args.places.now c.args.plan.now.starts c.args.prices.now in
    certified-so made c.verdict_on.result
    (certified-best_by_charge made c.new-checker.ensures.near c.new-checker.ensures.fit)
    (returns-clause-certified g c)

pub returns-clause-same : goal.returns-clause-same
returns-clause-same g c answer verdict =
    verdict-same _ c.verdict_on.result answer (returns-clause-certified g c) (returns-clause-failed g c)
    verdict
