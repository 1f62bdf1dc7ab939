-- What is judged where all places are free is judged without prices of places.
use Rattle.std.proofs.Common.{List, Option, ℕ}
use Rattle.std.specs.declared.result.Result.{Result}
use Rattle.std.specs.declared.result.Result.TheVariants.{Ok, Err}
use Rattle.wave_problem.specs.Assignment.{pairs_of}
use Rattle.wave_problem.specs.Wave.{Wave}
use Rattle.price_certificate.specs.PriceList.{PriceList}
use Rattle.price_certificate.specs.declared.Condition.{Condition}
use Rattle.price_certificate.specs.Certificate.{claim}
use Rattle.price_certificate.proofs.Covered.{best-plain}
use Rattle.certificate_checker.specs.declared.Certified.{Certified}
use Rattle.mrjob_c.specs.Checks.{IsJudged, IsJudgedWith}

pub judged_plain : (wave : Wave) (starts : List (Option ℕ)) (prices : PriceList) (outcome : Result Certified Condition)
    → IsJudgedWith (claim wave starts prices) outcome → IsJudged (claim wave starts prices) outcome
judged_plain wave starts prices (Ok certified) judged = record {
  certifies = judged.certifies;
  best = best-plain wave (pairs_of starts) judged.best;
  count = judged.count;
  cost = judged.cost;
}
judged_plain wave starts prices (Err condition) judged = judged
