use Rattle.std.proofs.Common.{length, ap, ◌∙◌, arith, false}
use Rattle.std.proofs.lemmas.Grind.{common_steps}
use Rattle.std.proofs.lemmas.List.Sums.{fold_more}
use Rattle.node_ids.proofs.Updating.{length-updated}
use Rattle.worker_table.specs.Workers.{with_death}
use Rattle.worker_table.specs.declared.Worker.{Worker}
use Rattle.master_tables.proofs.deaths.bury_each.Goals as goal

pub loop-worker-preserved : goal.loop-worker-preserved
loop-worker-preserved c =
    let now = c.loop-worker.workers in
    let i = c.loop-worker.worker-index in
    let n = c.worker-item.result in
    let was = c.loop-worker.invariant in
    let more = fold_more with_death c.args.workers.now c.args.dead.now i n c.loop-worker-test.true in
    record {
      died = grind (arith, common_steps, more);
      same =
          ap (λ t. length t.each) c.die.ensures
          ∙ length-updated (λ (worker : Worker). record worker { live = false; taken = 0 }) now.each n
          ∙ was.same;
    }
