use Rattle.price_certificate.specs.declared.Condition.TheVariants.{Allowed}
use Rattle.price_certificate.specs.Certificate.{MayTake}
use Rattle.certificate_checker.proofs.Past.{rows_more, started_here, started_none}
use Rattle.certificate_checker.proofs.checker.Checker.check_allowed.Goals as goal
use Rattle.certificate_checker.proofs.checker.Checker.check_allowed.Goals.{in-Some+else-not-allows, in_default}

pub loop-i-preserved : goal.loop-i-preserved
loop-i-preserved c =
    let claim = c.args.self.now in
    let s = c.new-split.result in
    rows_more claim Allowed c.loop-i.i s c.new-split.ensures c.loop-i.invariant
    (elim c.match-start.branch [
      | in-Some+else-not-allows w ↦ started_here claim.starts s w.in-Some.worker c.start.result
          (MayTake claim.wave s) c.start.ensures.start w.in-Some.is (w.allows.ensures.0 w.if-not-allows.false)
      | in_default w ↦ started_none claim.starts s c.start.result
          (MayTake claim.wave s) c.start.ensures.start w.in_default.is
    ])
