use Rattle.std.proofs.Common.{◌≡◌, ◌∙◌, ap, rules, subst, sym}
use Rattle.wave_problem.specs.Assignment.{total}
use Rattle.price_certificate.specs.Certificate.{Certifies}
use Rattle.master_state.specs.Jobs.{IsCommitted, present, Job}
use Rattle.master_state.specs.Steps.{problem_of}
use Rattle.master_core.proofs.master.Master.start_wave.Goals as goal

pub start_in_room-requires-clause-cost : goal.start_in_room-requires-clause-cost
start_in_room-requires-clause-cost c =
    let value : c.deref.result.now ≡ c.in_ok-pairs.field-0.pairs.items = search rules in
    c.in_ok-pairs.ensures.cost
    ∙ ap (total (problem_of c.args.self.now.setup c.args.self.now.state)) (sym value)
    ∙ ap (λ (job : Job). total (problem_of job.setup job.state) c.deref.result.now) (sym c.best_starts.ensures.same)

pub returns-clause-started : goal.returns-clause-started
returns-clause-started c =
    let value : c.deref.result.now ≡ c.in_ok-pairs.field-0.pairs.items = search rules in
    let planned = c.in_ok-pairs.ensures.planned in
    let same = c.best_starts.ensures.same in
    record {
      planned = planned;
      committed = subst (λ (job : Job). IsCommitted job planned.plan c.in_ok-wave.wave c.start_in_room.new.self) same
          (c.in_ok-wave.ensures.committed planned.plan (planned.starts ∙ sym value) (
            planned.prices,
            subst (λ (job : Job). Certifies (present job planned.plan planned.prices)) (sym same) planned.certifies,
          ));
    }
