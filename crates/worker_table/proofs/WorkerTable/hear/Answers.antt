use Rattle.std.proofs.Common.{◌≡◌, ◌∙◌, ap}
use Rattle.std.proofs.Math.ListN.{set}
use Rattle.worker_table.specs.declared.Worker.{Worker}
use Rattle.worker_table.specs.Workers.{Workers, heard}
use Rattle.worker_table.proofs.Changes.{with_worker_at}
use Rattle.worker_table.proofs.WorkerTable.hear.Goals as goal

pub returns : goal.returns
returns c =
    let inside = c.self.inside in
    let t = c.args.self.now in
    let limit : inside.limit ≡ t.limit = ap (λ (u : Workers). u.limit) c.self.view_is in
    ap (λ (worker : Worker). record {
      limit = inside.limit;
      each = set inside.workers.items c.index-place.result worker;
      barred = inside.bars;
    }) (c.hear.ensures ∙ ap (λ l. heard l c.index.result.now c.args.count) limit)
    ∙ with_worker_at inside (λ (worker : Worker). heard t.limit worker c.args.count)
    c.index-place.ensures.value c.self.view_is c.index.ensures c.requires
