use Rattle.std.proofs.Common.{subst, arith}
use Rattle.wave_problem.specs.Wave.{IsWithinLimits}
use Rattle.certificate_checker.proofs.Costs.{cost-most}
use Rattle.certificate_checker.proofs.checker.Checker.tight_cost.Goals as goal

pub returns-clause-most : goal.returns-clause-most
returns-clause-most c =
    omega (
      arith,
      c.reward.ensures.reward,
      c.split_price.ensures,
      c.worker_price.ensures,
      c.requires.tight,
      cost-most c.args.self.now.wave c.args.split c.args.worker (subst IsWithinLimits c.problem.ensures
          c.limits.ensures.problem) c.requires.split,
    )
