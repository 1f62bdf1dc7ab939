use Rattle.std.proofs.Common.{◌≡◌, arith, ℕ, ap, sym, ◌∙◌, length, ◌<◌, unwrap_or}
use Rattle.wave_problem.specs.Wave.{cost}
use Rattle.wave_problem.specs.Assignment.{start_of}
use Rattle.wave_problem.proofs.Pairs.{total_more, total_same}
use Rattle.price_certificate.specs.declared.Condition.TheVariants.{Tight}
use Rattle.certificate_checker.proofs.checker.Checker.total.Goals as goal
use Rattle.certificate_checker.proofs.checker.Checker.total.Goals.{in-Some, in_default}

pub tight_cost-total-requires-clause-tight : goal.tight_cost-total-requires-clause-tight
tight_cost-total-requires-clause-tight c =
    c.requires (Tight c.new-split.result c.in-Some.worker) (sym c.start.ensures.start ∙ c.in-Some.is)

pub loop-i-preserved : goal.loop-i-preserved
loop-i-preserved c =
    let claim = c.args.self.now in
    let i = c.loop-i.i in
    let here : c.start.result ≡ start_of claim.starts i = c.start.ensures.start
    ∙ ap (start_of claim.starts) c.new-split.ensures in
    let within : i < length claim.starts = omega arith in
    elim c.match-start.branch [
      | in-Some w ↦
          let more = total_more claim.wave claim.starts i w.in-Some.worker c.start.result within here
          w.in-Some.is in
          let same : w.tight_cost-total.result ≡ unwrap_or (cost claim.wave i w.in-Some.worker) 0 =
          w.tight_cost-total.ensures.cost
          ∙ ap (λ (z : ℕ). unwrap_or (cost claim.wave z w.in-Some.worker) 0) c.new-split.ensures in (
            omega (arith, more, same, w.total-is, c.loop-i.invariant.0),
            omega (arith, w.total-is, w.tight_cost-total.ensures.most, c.loop-i.invariant.1),
          )
      | in_default w ↦
          let more = total_same claim.wave claim.starts i c.start.result within here w.in_default.is in (
            omega (arith, more, w.total-is, c.loop-i.invariant.0),
            omega (arith, w.total-is, c.loop-i.invariant.1),
          )
    ]
