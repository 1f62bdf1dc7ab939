use Rattle.std.proofs.Common.{◌<◌, length}
use Rattle.std.specs.Prelude.{IfSome}
use Rattle.std.proofs.lemmas.Result.{IfErr-weaker}
use Rattle.price_certificate.specs.Certificate.{charged_claim, HasOneSize, IsFirstFailure}
use Rattle.mrjob_c.specs.Checks.{split_in}
use Rattle.mrjob_c.proofs.Failing.{failing_split}
use Rattle.mrjob_c.proofs.checks.certify_within.Goals as goal

pub returns-clause-at_a_split : goal.returns-clause-at_a_split
returns-clause-at_a_split c =
    let places = c.args.places.now in
    let claimed = charged_claim c.args.problem.now places c.args.plan.now.starts c.args.prices.now in
    let size : HasOneSize claimed c.args.plan.now.workers = record {
      starts = c.requires.starts;
      workers = c.requires.workers;
      split_prices = c.requires.split_prices;
      worker_prices = c.requires.worker_prices;
    } in
    IfErr-weaker c.certify_places.result (IsFirstFailure claimed)
    (λ d. IfSome (split_in d) (λ s. s < length c.args.problem.now.splits))
    (λ d first. failing_split claimed _ size d first.fails) c.certify_places.ensures.refused
