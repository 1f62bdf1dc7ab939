use Rattle.std.proofs.Common.{◌≡◌, List, map, ap, ◌∙◌, refl, sym, subst}
use Rattle.worker_table.specs.Bars.{Bars}
use Rattle.wave_problem.specs.declared.lines.WorkerLine.{WorkerLine}
use Rattle.wave_problem.specs.Wave.{IsWithinLimits, wave_from}
use Rattle.worker_table.specs.declared.Worker.{Worker}
use Rattle.master_state.specs.Steps.{queue_lines, worker_line}
use Rattle.master_core.specs.Inside.{setup_of, state_of}
use Rattle.master_core.proofs.Present.{AreParts, parts_within, problem_is}
use Rattle.master_core.proofs.Queueing.{queue_within}
use Rattle.master_core.proofs.master.Master.queue_problem.Goals.{After-deref-2}
use Rattle.master_core.proofs.master.Master.queue_problem.Goals as goal

-- the parts of the present problem: the workers' lines have no queues yet
parts_are : (c : After-deref-2) →
    AreParts c.self.inside c.in_ok-tree.tree (map worker_line c.self.inside.workers.each) c.deref-2.result.now
    c.in_ok-barred.barred
parts_are c = record {
  tree_is = c.in_ok-tree.ensures ∙ c.tree.ensures;
  workers_are = refl;
  splits_are = cc (
    c.deref-2.ensures.value,
    c.in_ok-splits.ensures,
    c.splits.ensures.value,
    c.deref.ensures.value,
  );
  barred_are = c.in_ok-barred.ensures ∙ ap (λ (b : Bars). b.rows) c.bars.ensures;
}

pub within_limits-requires : goal.within_limits-requires
within_limits-requires c =
    let m = c.self.inside in
    let parts = parts_are (goal.at.within_limits-requires c).After-deref-2 in
    let wave = wave_from c.in_ok-tree.tree (map worker_line m.workers.each) c.deref-2.result.now
    c.in_ok-barred.barred in
    let within : IsWithinLimits wave = parts_within m c.in_ok-tree.tree (map worker_line m.workers.each)
    c.deref-2.result.now c.in_ok-barred.barred c.self.invariant parts in
    let lines = c.in_ok-workers.ensures
    ∙ ap (λ (ws : List Worker). queue_lines c.args.asked.now (map worker_line ws)) c.workers.ensures.value in
    subst (λ (ls : List WorkerLine). IsWithinLimits (record wave { workers = ls })) (sym lines)
    (queue_within c.args.asked.now wave c.requires within)
