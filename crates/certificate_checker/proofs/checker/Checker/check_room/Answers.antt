use Rattle.std.proofs.Common.{arith}
use Rattle.price_certificate.specs.declared.Condition.TheVariants.{Room}
use Rattle.certificate_checker.proofs.Places.{room_series, series_all}
use Rattle.certificate_checker.proofs.Past.{room_past}
use Rattle.certificate_checker.proofs.checker.Checker.check_room.Goals as goal

pub returns-clause-ok : goal.returns-clause-ok
returns-clause-ok c =
    series_all c.args.self.now 3 Room room_series c.workers-i-end.result
    (room_past c.args.self.now c.workers-i-end.result c.workers-i-end.ensures.count c.requires)
    (λ k l. c.loop-i.invariant k (omega arith))
