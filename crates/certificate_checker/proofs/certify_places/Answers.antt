use Rattle.std.proofs.Common.{subst}
use Rattle.std.proofs.lemmas.Result.{IfOk-weaker}
use Rattle.price_certificate.specs.Certificate.{Claim, charged_claim}
use Rattle.price_certificate.proofs.Duality.{certified-best_by_charge}
use Rattle.certificate_checker.specs.Verdict.{IsVerdict}
use Rattle.certificate_checker.proofs.Verdicts.{certified-so, verdict-certified, verdict-certifies}
use Rattle.certificate_checker.proofs.Verdicts.{verdict-refused, verdict-unique}
use Rattle.certificate_checker.proofs.certify_places.Goals as goal

pub returns-clause-verdict : goal.returns-clause-verdict
returns-clause-verdict c =
    subst (λ (z : Claim). IsVerdict z c.verdict.result) c.new-checker.ensures.value c.verdict.ensures

pub returns-clause-certified : goal.returns-clause-certified
returns-clause-certified c = verdict-certifies _ c.verdict.result (returns-clause-verdict c)

pub returns-clause-count : goal.returns-clause-count
returns-clause-count c =
    IfOk-weaker c.verdict.result _ _ (λ certified is. is.count)
    (verdict-certified _ c.verdict.result (returns-clause-verdict c))

pub returns-clause-cost : goal.returns-clause-cost
returns-clause-cost c =
    IfOk-weaker c.verdict.result _ _ (λ certified is. is.cost)
    (verdict-certified _ c.verdict.result (returns-clause-verdict c))

pub returns-clause-places : goal.returns-clause-places
returns-clause-places c =
    IfOk-weaker c.verdict.result _ _ (λ certified is. is.places)
    (verdict-certified _ c.verdict.result (returns-clause-verdict c))

pub returns-clause-best : goal.returns-clause-best
returns-clause-best c =
    let made : Claim =
    charged_claim c.args.problem.now c.args.places.now c.args.plan.now.starts c.args.prices.now in
    certified-so made c.verdict.result
    (certified-best_by_charge made c.new-checker.ensures.near c.new-checker.ensures.fit)
    (verdict-certified made c.verdict.result (returns-clause-verdict c))

pub returns-clause-refused : goal.returns-clause-refused
returns-clause-refused c = verdict-refused _ c.verdict.result (returns-clause-verdict c)

pub returns-clause-only : goal.returns-clause-only
returns-clause-only c answer is = verdict-unique _ c.verdict.result answer (returns-clause-verdict c) is
