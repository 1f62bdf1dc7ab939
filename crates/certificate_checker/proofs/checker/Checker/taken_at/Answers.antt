use Rattle.std.proofs.Common.{◌≤◌, arith, subst, sym}
use Rattle.std.proofs.lemmas.List.Elements.{All-get_or}
use Rattle.wave_problem.specs.declared.TheConstants.{MAX_SLOTS}
use Rattle.wave_problem.specs.declared.lines.WorkerLine.{WorkerLine}
use Rattle.wave_problem.specs.Wave.{worker_at, IsWithinLimits}
use Rattle.wave_problem.specs.Assignment.{pairs_of}
use Rattle.price_certificate.specs.declared.Condition.TheVariants.{Room}
use Rattle.price_certificate.proofs.Covered.{charge-plain}
use Rattle.certificate_checker.proofs.checker.Checker.taken_at.Goals as goal

pub returns-then-is_free : goal.returns-then-is_free
returns-then-is_free c =
    rw (c.is_free.ensures.0 c.if-is_free.true)
    (sym (charge-plain c.args.self.now.wave (pairs_of c.args.self.now.starts)))

pub cost-total-requires : goal.cost-total-requires
cost-total-requires c =
    let wave = c.args.self.now.wave in
    let within = subst IsWithinLimits c.problem.ensures c.limits.ensures.problem in
    let few : (worker_at wave c.new-worker.result).free ≤ MAX_SLOTS =
    All-get_or (λ (worker : WorkerLine). worker.free ≤ MAX_SLOTS) wave.workers c.new-worker.result _
    (omega arith) within.slots in
    omega (arith, few, c.load.ensures, c.requires (Room c.new-worker.result))
