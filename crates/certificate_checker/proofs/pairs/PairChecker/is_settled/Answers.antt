use Rattle.certificate_checker.proofs.Settled.{settled}
use Rattle.certificate_checker.proofs.pairs.PairChecker.is_settled.Goals as goal

pub returns-then-is_priced_far : goal.returns-then-is_priced_far
returns-then-is_priced_far c = λ near.
    let far = c.is_priced_far.ensures in
    let told = c.if-is_priced_far.true in
    settled c.args.self.now c.args.split (far.anywhere told) (far.centres told)
    (c.is_priced_near.ensures near)
