use Rattle.std.proofs.Common.{◌∙◌, true, sym, ap, subst, inl, inr}
use Rattle.std.proofs.lemmas.Bool.{cases_Bool}
use Rattle.wave_problem.specs.Wave.{worker_at, Wave}
use Rattle.tree_planner.specs.Going.{HasSameGround}
use Rattle.tree_planner.proofs.Flagged.{flag_here, flag_other, ground_with_pending}
use Rattle.tree_planner.proofs.kept.Engine.flag.Goals as goal

pub returns-clause-ground : goal.returns-clause-ground
returns-clause-ground c =
    subst (λ (x : Wave). HasSameGround c.args.self.now.wave x) (sym c.in_ok-pend.ensures.wave)
    (ground_with_pending c.args.self.now.wave c.args.split true)

pub returns-clause-here : goal.returns-clause-here
returns-clause-here c =
    let here = flag_here c.args.self.now.wave c.pend.new.self.wave c.args.split true
    (ap (λ (x : Wave). x.splits) c.in_ok-pend.ensures.wave) c.requires.split in
    elim (cases_Bool c.args.pending) [
      | inl is ↦ here ∙ sym is
      | inr none ↦ absurd (let not = c.if-not-pending.false in cc)
    ]

pub returns-clause-others : goal.returns-clause-others
returns-clause-others c =
    flag_other c.args.self.now.wave c.pend.new.self.wave c.args.split true
    (ap (λ (x : Wave). x.splits) c.in_ok-pend.ensures.wave)

pub returns-clause-lines : goal.returns-clause-lines
returns-clause-lines c = λ w other. ap (λ (x : Wave). worker_at x w) c.in_ok-pend.ensures.wave
