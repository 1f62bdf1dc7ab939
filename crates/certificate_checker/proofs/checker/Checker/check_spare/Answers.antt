use Rattle.std.proofs.Common.{arith}
use Rattle.price_certificate.specs.declared.Condition.TheVariants.{Spare}
use Rattle.certificate_checker.proofs.Places.{series_all, series_more, spare_series}
use Rattle.certificate_checker.proofs.Past.{spare_past}
use Rattle.certificate_checker.proofs.checker.Checker.check_spare.Goals as goal

pub loop-i-preserved : goal.loop-i-preserved
loop-i-preserved c =
    series_more c.args.self.now Spare c.loop-i.i c.new-worker.result c.fits_places.result
    c.new-worker.ensures c.fits_places.ensures c.if-not-fits_places.false c.loop-i.invariant

pub returns-clause-ok : goal.returns-clause-ok
returns-clause-ok c =
    series_all c.args.self.now 9 Spare spare_series c.workers-i-end.result
    (spare_past c.args.self.now c.workers-i-end.result c.workers-i-end.ensures.count c.requires)
    (λ k l. c.loop-i.invariant k (omega arith))
