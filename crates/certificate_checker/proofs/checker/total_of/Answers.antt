use Rattle.certificate_checker.proofs.checker.total_of.Goals as goal

pub returns-in-Some-clause-fit : goal.returns-in-Some-clause-fit
returns-in-Some-clause-fit c = rw c.in-Some.is c.limits.ensures.each
