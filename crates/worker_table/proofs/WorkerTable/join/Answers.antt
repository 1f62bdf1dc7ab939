use Rattle.std.proofs.Common.{true}
use Rattle.worker_table.specs.declared.Worker.{Worker}
use Rattle.worker_table.proofs.Changes.{with_worker_at}
use Rattle.worker_table.proofs.WorkerTable.join.Goals as goal

pub returns : goal.returns
returns c =
    with_worker_at c.self.inside (λ (worker : Worker). record worker { live = true; silence = 0 })
    c.index.ensures.value c.self.view_is c.index_mut-found.ensures.value c.requires
