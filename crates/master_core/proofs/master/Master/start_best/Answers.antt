use Rattle.std.proofs.Common.{◌∙◌, ap, subst, sym}
use Rattle.wave_problem.specs.Assignment.{total}
use Rattle.certificate_checker.specs.declared.Certified.{Certified}
use Rattle.price_certificate.specs.Certificate.{Certifies}
use Rattle.master_state.specs.Jobs.{IsCommitted, present, Job}
use Rattle.master_state.specs.Steps.{problem_of}
use Rattle.master_core.proofs.master.Master.start_best.Goals as goal

pub start_in_room-requires-clause-priced : goal.start_in_room-requires-clause-priced
start_in_room-requires-clause-priced c =
    let planned = c.in_ok-planned.planned in (
      planned.plan.starts,
      sym c.pairs.ensures,
      (
        planned.prices,
        subst (λ (job : Job). Certifies (present job planned.plan.starts planned.prices))
            (sym c.best_plan.ensures.same) c.in_ok-planned.ensures.certifies,
      ),
    )

pub start_in_room-requires-clause-cost : goal.start_in_room-requires-clause-cost
start_in_room-requires-clause-cost c =
    ap (λ (x : Certified). x.cost) c.certified.ensures.certified
    ∙ c.in_ok-planned.ensures.counted.cost
    ∙ ap (total (problem_of c.args.self.now.setup c.args.self.now.state)) (sym c.pairs.ensures)
    ∙ ap (λ (job : Job). total (problem_of job.setup job.state) c.pairs.result.now) (sym c.best_plan.ensures.same)

pub returns-clause-committed : goal.returns-clause-committed
returns-clause-committed c =
    let planned = c.in_ok-planned.planned in
    let same = c.best_plan.ensures.same in
    subst (λ (job : Job). IsCommitted job planned.plan.starts c.in_ok-wave.wave c.start_in_room.new.self) same
    (c.in_ok-wave.ensures.committed planned.plan.starts (sym c.pairs.ensures) (
      planned.prices,
      subst (λ (job : Job). Certifies (present job planned.plan.starts planned.prices)) (sym same)
          c.in_ok-planned.ensures.certifies,
    ))
