use Rattle.std.proofs.Common.{false}
use Rattle.worker_table.specs.declared.Worker.{Worker}
use Rattle.worker_table.proofs.Changes.{with_worker_at}
use Rattle.worker_table.proofs.WorkerTable.die.Goals as goal

pub returns : goal.returns
returns c =
    with_worker_at c.self.inside (λ (worker : Worker). record worker { live = false; taken = 0 })
    c.index.ensures.value c.self.view_is c.index_mut-found.ensures.value c.requires
