use Rattle.std.proofs.Common.{◌<◌, length, subst}
use Rattle.wave_problem.specs.Wave.{Wave}
use Rattle.master_core.proofs.kept_plan.gone_over.Goals as goal

pub returns-clause-settled : goal.returns-clause-settled
returns-clause-settled c = λ s l.
    c.in_ok-go_to.ensures.shipped s (subst (λ (x : Wave). s < length x.splits) c.in_ok-go_to.ensures.wave l)
