use Rattle.std.proofs.Common.{◌<◌, length, subst}
use Rattle.wave_problem.specs.Wave.{Wave}
use Rattle.master_core.proofs.kept_plan.fresh.Goals as goal

pub returns-clause-settled : goal.returns-clause-settled
returns-clause-settled c = λ s l.
    c.in_ok-settle.ensures.shipped s (subst (λ (x : Wave). s < length x.splits) c.in_ok-settle.ensures.wave l)
