use Rattle.std.proofs.Common.{◌≡◌, map, ap, ◌∙◌, length}
use Rattle.std.proofs.lemmas.Result.{IfOk-weaker}
use Rattle.worker_table.specs.Bars.{Bars}
use Rattle.wave_problem.specs.Wave.{Wave}
use Rattle.master_state.specs.Steps.{worker_line}
use Rattle.master_core.proofs.Present.{AreParts, problem_is, parts_within, splits_of_problem}
use Rattle.master_core.proofs.master.Master.problem.Goals.{After-deref-2}
use Rattle.master_core.proofs.master.Master.problem.Goals as goal

parts_are : (c : After-deref-2) →
    AreParts c.self.inside c.in_ok-tree.tree c.in_ok-workers.workers.items c.deref-2.result.now
    c.in_ok-barred.barred
parts_are c = record {
  tree_is = c.in_ok-tree.ensures ∙ c.tree.ensures;
  workers_are = c.in_ok-workers.ensures ∙ ap (map worker_line) c.workers.ensures.value;
  splits_are = cc (
    c.deref-2.ensures.value,
    c.in_ok-splits.ensures,
    c.splits.ensures.value,
    c.deref.ensures.value,
  );
  barred_are = c.in_ok-barred.ensures ∙ ap (λ (b : Bars). b.rows) c.bars.ensures;
}

pub within_limits-requires : goal.within_limits-requires
within_limits-requires c =
    parts_within c.self.inside c.in_ok-tree.tree c.in_ok-workers.workers.items c.deref-2.result.now
    c.in_ok-barred.barred c.self.invariant (parts_are (goal.at.within_limits-requires c).After-deref-2)

pub returns-clause-splits : goal.returns-clause-splits
returns-clause-splits c =
    IfOk-weaker c.within_limits.result _
    (λ (problem : Wave). length problem.splits ≡ length c.args.self.now.setup.cluster.splits)
    (λ problem is. splits_of_problem c.self.inside c.args.self.now problem c.self.invariant c.self.view_is
    (is ∙ problem_is c.self.inside c.in_ok-tree.tree c.in_ok-workers.workers.items c.deref-2.result.now
    c.in_ok-barred.barred (parts_are (goal.at.returns-clause-splits c).After-deref-2)))
    c.within_limits.ensures
