use Rattle.std.proofs.Common.{map}
use Rattle.master_state.specs.Steps.{worker_line}
use Rattle.std.proofs.Common.{ap, length, arith}
use Rattle.wave_problem.specs.Wave.{Wave}
use Rattle.tree_planner.proofs.Gained.{all_gained, ground_with_workers, none_fit}
use Rattle.std.proofs.lemmas.List.{length-map}
use Rattle.master_core.proofs.kept_plan.fit_all.Goals as goal

pub loop-w-init : goal.loop-w-init
loop-w-init c = none_fit c.args.engine.now.wave (map worker_line c.args.workers.now)

pub returns-clause-fit : goal.returns-clause-fit
returns-clause-fit c = λ fit.
    all_gained c.args.engine.now.wave c.loop-w.engine.wave (map worker_line c.args.workers.now) c.loop-w.invariant.rest
    (let lines = length-map c.args.workers.now worker_line in
    omega (arith, c.loop-w.invariant.size, c.requires.workers))
    (λ k l. c.loop-w.invariant.done k (let size = c.requires.workers in
    let lines = length-map c.args.workers.now worker_line in
    let at = ap (λ (x : Wave). length x.workers) c.problem.ensures in omega arith))

pub returns-clause-ground : goal.returns-clause-ground
returns-clause-ground c =
    ground_with_workers c.args.engine.now.wave c.loop-w.engine.wave c.loop-w.invariant.rest c.loop-w.invariant.size
