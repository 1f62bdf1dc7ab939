use Rattle.std.proofs.Common.{subst, sym, ◌∙◌}
use Rattle.wave_problem.specs.Assignment.{pairs_of}
use Rattle.price_certificate.specs.Certificate.{Claim, Certifies, claim}
use Rattle.price_certificate.proofs.Covered.{charge-plain}
use Rattle.price_certificate.proofs.Duality.{certified-best}
use Rattle.certificate_checker.specs.Verdict.{IsCertified}
use Rattle.certificate_checker.proofs.count_and_cost.Goals as goal

pub certified-requires : goal.certified-requires
certified-requires c = subst Certifies (sym c.new-checker.ensures.value) c.requires.certifies

pub returns-clause-places : goal.returns-clause-places
returns-clause-places c =
    let told = subst (λ (z : Claim). IsCertified z c.certified.result) c.new-checker.ensures.value
    c.certified.ensures in
    told.places ∙ charge-plain c.args.problem.now (pairs_of c.args.plan.now.starts)

pub returns-clause-best : goal.returns-clause-best
returns-clause-best c =
    certified-best (claim c.args.problem.now c.args.plan.now.starts c.args.prices.now)
    c.new-checker.ensures.near c.requires.certifies
