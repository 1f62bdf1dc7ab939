use Rattle.std.proofs.Common.{◌≡◌, ◌≤◌, ◌<◌, ℕ, List, Option, length, map, ap, ◌∙◌, subst, sym, arith}
use Rattle.std.specs.Prelude.{All}
use Rattle.wave_problem.specs.declared.TheConstants.{MAX_SPLITS}
use Rattle.wave_problem.specs.declared.lines.WorkerLine.{WorkerLine}
use Rattle.wave_problem.specs.Wave.{Wave}
use Rattle.wave_problem.specs.Assignment.{IsBest, Plan, pairs_of, total}
use Rattle.wave_planner.proofs.Costed.{pairs_few}
use Rattle.worker_table.specs.declared.Worker.{Worker}
use Rattle.price_certificate.specs.Certificate.{claim, Certifies}
use Rattle.master_state.specs.Steps.{AreHeads, problem_of, worker_line}
use Rattle.master_state.specs.Jobs.{Job}
use Rattle.master_state.proofs.Ahead.{queued_total}
use Rattle.master_core.specs.Queues.{queue_problem}
use Rattle.master_core.proofs.Queueing.{heads_known}
use Rattle.master_core.proofs.master.Master.queue_plan.Goals.{After-problem-2}
use Rattle.master_core.proofs.master.Master.queue_plan.Goals as goal

few_heads : (c : After-problem-2) → length c.in_ok-heads.heads.starts ≤ MAX_SPLITS
few_heads c =
    let same = c.in_ok-heads.ensures.size ∙ ap (λ (p : Plan). length p.starts) c.plan.ensures in
    let splits = ap (λ (w : Wave). length w.splits) c.problem.ensures in
    omega (arith, same, c.in_ok-planned.ensures.sizes.starts, splits, c.limits.ensures.problem.few_splits)

pub cost_of-requires-clause-few : goal.cost_of-requires-clause-few
cost_of-requires-clause-few c =
    let few = few_heads (goal.at.cost_of-requires-clause-few c).After-problem-2 in
    let is = ap length (c.deref.ensures.value ∙ c.in_ok-pairs.ensures) in
    omega (arith, few, is, pairs_few c.in_ok-heads.heads.starts)

pub cost_of-requires-clause-known : goal.cost_of-requires-clause-known
cost_of-requires-clause-known c =
    let wave = c.in_ok-engine.engine.wave in
    let planned = c.in_ok-planned.planned in
    let heads = subst (λ (p : Plan). AreHeads (map worker_line c.workers.result.now) p.starts
    c.in_ok-heads.heads.starts) c.plan.ensures c.in_ok-heads.ensures.heads in
    let known = heads_known wave (map worker_line c.workers.result.now) planned.plan.starts
    c.in_ok-heads.heads.starts planned.prices c.in_ok-planned.ensures.certifies heads in
    subst (λ (ps : List (ℕ × ℕ)). All (λ pair. (pair.0 < length c.problem-2.result.now.splits)
    × (pair.1 < length c.problem-2.result.now.workers)) ps)
    (sym (c.deref.ensures.value ∙ c.in_ok-pairs.ensures))
    (subst (λ (w : Wave). All (λ pair. (pair.0 < length w.splits) × (pair.1 < length w.workers))
    (pairs_of c.in_ok-heads.heads.starts)) (sym c.problem-2.ensures) known)

pub returns-clause-plan : goal.returns-clause-plan
returns-clause-plan c =
    let j = c.args.self.now in
    let asked = c.args.asked.now in
    let planned = c.in_ok-planned.planned in
    let heads = c.in_ok-heads.heads.starts in
    let wave_is : c.in_ok-engine.engine.wave ≡ queue_problem j asked =
    c.in_ok-engine.ensures.wave ∙ ap (λ (i : Job). queue_problem i asked) c.self.view_is in
    let own = subst (λ (p : Plan). AreHeads (map worker_line c.workers.result.now) p.starts heads) c.plan.ensures
    c.in_ok-heads.ensures.heads in
    let lines : map worker_line c.workers.result.now ≡ (problem_of j.setup j.state).workers =
    ap (map worker_line) c.workers.ensures.value ∙ ap (λ (i : Job). (problem_of i.setup i.state).workers) c.self.view_is
    in
    record {
      queued_is = record {
        best = subst (λ (w : Wave). IsBest w (pairs_of planned.plan.starts)) wave_is c.in_ok-planned.ensures.best;
        certifies = subst (λ (w : Wave). Certifies (claim w planned.plan.starts planned.prices)) wave_is
            c.in_ok-planned.ensures.certifies;
        count = c.in_ok-planned.ensures.count;
        cost = c.in_ok-planned.ensures.cost ∙ ap (λ (w : Wave). total w (pairs_of planned.plan.starts)) wave_is;
      };
      heads = subst (λ (ls : List WorkerLine). AreHeads ls planned.plan.starts heads) lines own;
      pairs = c.in_ok-pairs.ensures;
      totals = record {
        count = omega (arith, c.len.ensures, ap length c.in_ok-pairs.ensures);
        cost = c.cost_of.ensures
            ∙ (λ i. total (c.problem-2.ensures i) (c.deref.ensures.value i))
            ∙ (λ i. total (wave_is i) (c.in_ok-pairs.ensures i))
            ∙ queued_total asked (problem_of j.setup j.state) (pairs_of heads);
      };
      few = few_heads (goal.at.returns-clause-plan c).After-problem-2;
    }
