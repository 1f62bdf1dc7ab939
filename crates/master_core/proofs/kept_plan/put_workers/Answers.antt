use Rattle.std.proofs.Common.{◌≡◌, ◌∙◌, ap, map, refl}
use Rattle.tree_planner.specs.Going.{turned}
use Rattle.tree_planner.proofs.Flagged.{turned_same}
use Rattle.master_state.specs.Steps.{worker_line}
use Rattle.master_core.specs.Near.{flags_of}
use Rattle.master_core.proofs.kept_plan.put_workers.Goals as goal
use Rattle.master_core.proofs.kept_plan.put_workers.Goals.{else-are_few_back-via-else-are_few_back}
use Rattle.master_core.proofs.kept_plan.put_workers.Goals.{else-are_few_back-via-then-are_few_back+in_ok-fit_workers+else-branch}

pub returns : goal.returns
returns c =
    let old = c.args.engine.now.wave in
    let now = c.else-are_few_back.engine.wave in
    let lines = map worker_line c.args.workers.now in
    let flags = flags_of c.args.entries.now in
    let same : turned now lines flags ≡ turned old lines flags = elim c.else-are_few_back.branch [
      | else-are_few_back-via-then-are_few_back+in_ok-fit_workers+else-branch w ↦
          rw w.engine-is
          (turned_same old w.fit_workers.new.engine.wave lines flags w.in_ok-fit_workers.ensures.ground)
      | else-are_few_back-via-else-are_few_back w ↦ rw w.engine-is refl
    ] in
    c.in_ok-renew.ensures.wave
    ∙ ap (λ lines. turned now lines c.deref-2.result.now) (c.deref.ensures.value ∙ c.in_ok-lines.ensures)
    ∙ ap (turned now lines) (c.deref-2.ensures.value ∙ c.in_ok-pending.ensures) ∙ same
