use Rattle.std.proofs.Common.{◌∙◌, Some, false, sym, ap, subst}
use Rattle.wave_problem.specs.Wave.{worker_at, Wave}
use Rattle.tree_planner.specs.Events.{with_pending}
use Rattle.tree_planner.specs.Going.{HasSameGround}
use Rattle.tree_planner.specs.Shown.{Shown}
use Rattle.tree_planner.proofs.Flagged.{ground_started, ground_with_pending, lines_started}
use Rattle.tree_planner.proofs.kept.Engine.set_aside.Goals as goal

pub returns-in-Some-clause-ground : goal.returns-in-Some-clause-ground
returns-in-Some-clause-ground c =
    subst (λ (x : Wave). HasSameGround c.args.self.now.wave x) (sym c.in-Some.ensures.wave)
    (ground_started c.args.self.now.wave c.args.split c.in-Some.worker)

pub returns-in-Some-clause-split : goal.returns-in-Some-clause-split
returns-in-Some-clause-split c = ap (λ (x : Wave). x.splits) c.in-Some.ensures.wave

pub returns-in-None-clause-ground : goal.returns-in-None-clause-ground
returns-in-None-clause-ground c =
    subst (λ (x : Wave). HasSameGround c.args.self.now.wave x)
    (sym (c.pass_over.ensures
    ∙ ap (λ (x : Shown). with_pending x.wave c.args.split false) (c.start.ensures.none c.in-None.is).0))
    (ground_with_pending c.args.self.now.wave c.args.split false)

pub returns-in-None-clause-split : goal.returns-in-None-clause-split
returns-in-None-clause-split c =
    ap (λ (x : Wave). x.splits) (c.pass_over.ensures
    ∙ ap (λ (x : Shown). with_pending x.wave c.args.split false) (c.start.ensures.none c.in-None.is).0)

pub returns-in-Some-clause-lines : goal.returns-in-Some-clause-lines
returns-in-Some-clause-lines c = λ w other.
    ap (λ (x : Wave). worker_at x w) c.in-Some.ensures.wave
    ∙ lines_started c.args.self.now.wave c.args.split c.in-Some.worker w (λ is. other (ap Some (sym is)))

pub returns-in-None-clause-lines : goal.returns-in-None-clause-lines
returns-in-None-clause-lines c = λ w other.
    ap (λ (x : Wave). worker_at x w) (c.pass_over.ensures
    ∙ ap (λ (x : Shown). with_pending x.wave c.args.split false) (c.start.ensures.none c.in-None.is).0)
