use Rattle.std.proofs.Common.{arith, map}
use Rattle.master_state.specs.Steps.{worker_line}
use Rattle.master_core.proofs.Fitting.{all_fit_before, none_fit_before}
use Rattle.master_core.proofs.kept_plan.fit_each.Goals as goal

pub loop-i-init : goal.loop-i-init
loop-i-init c = none_fit_before c.args.engine.now.wave c.args.listed.now (map worker_line c.args.workers.now)

pub returns-clause-fit : goal.returns-clause-fit
returns-clause-fit c = λ fit.
    all_fit_before c.args.engine.now.wave c.loop-i.engine.wave c.args.listed.now (map worker_line c.args.workers.now)
    c.loop-i.i c.loop-i.invariant (omega arith)
