use Rattle.std.proofs.Common.{◌∙◌, ◌<◌, ℕ, List, ap, length, map, subst, sym}
use Rattle.wave_problem.specs.Wave.{Wave}
use Rattle.tree_planner.proofs.Flagged.{splits_same, turned_same}
use Rattle.master_state.specs.Steps.{worker_line}
use Rattle.master_core.specs.Near.{flags_of}
use Rattle.master_core.specs.Fitting.{AreLinedBut}
use Rattle.master_core.proofs.Fitting.{lined_but}
use Rattle.master_core.proofs.kept_plan.kept_up.Goals as goal

pub put_workers-requires-clause-workers : goal.put_workers-requires-clause-workers
put_workers-requires-clause-workers c = c.requires.workers ∙ sym c.in_ok-started.ensures.ground.workers

pub put_workers-requires-clause-splits : goal.put_workers-requires-clause-splits
put_workers-requires-clause-splits c = c.requires.splits
    ∙ sym (splits_same c.args.engine.wave c.flag_splits.new.engine.wave c.in_ok-started.ensures.ground)

pub returns-clause-wave : goal.returns-clause-wave
returns-clause-wave c = c.settle.ensures.wave ∙ c.in_ok-put_workers.ensures
    ∙ turned_same c.args.engine.wave c.flag_splits.new.engine.wave (map worker_line c.args.workers.now)
    (flags_of c.args.entries.now) c.in_ok-started.ensures.ground

pub returns-clause-settled : goal.returns-clause-settled
returns-clause-settled c = λ s l.
    c.in_ok-settle.ensures.shipped s
    (subst (λ (n : ℕ). s < n) (ap (λ (x : Wave). length x.splits) c.settle.ensures.wave) l)

pub put_workers-requires-clause-lined : goal.put_workers-requires-clause-lined
put_workers-requires-clause-lined c =
    let now = c.flag_splits.new.engine.wave in
    let lines = map worker_line c.args.workers.now in
    subst (λ (started : List ℕ). AreLinedBut now c.args.touched.now started lines) (sym c.deref.ensures.value)
    (lined_but c.args.engine.wave now c.args.touched.now c.in_ok-started.started.items lines c.requires.lined
    c.in_ok-started.ensures.lines)
