use Rattle.std.proofs.lemmas.Result.{on_ok_weaker}
use Rattle.wave_problem.specs.Assignment.{pairs_of}
use Rattle.price_certificate.proofs.Covered.{best-plain}
use Rattle.certificate_checker.proofs.certify_on.Goals as goal

pub returns-clause-best : goal.returns-clause-best
returns-clause-best g c =
    on_ok_weaker c.certify_places_on-2.result
    (best-plain c.args.problem.now (pairs_of c.args.plan.now.starts))
    (rw c.free.ensures at c.certify_places_on-2.ensures.best)
