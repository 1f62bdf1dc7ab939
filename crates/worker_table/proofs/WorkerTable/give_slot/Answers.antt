use Rattle.std.proofs.Common.{◌-◌}
use Rattle.worker_table.specs.declared.Worker.{Worker}
use Rattle.worker_table.proofs.Changes.{with_worker_at}
use Rattle.worker_table.proofs.WorkerTable.give_slot.Goals as goal

pub returns : goal.returns
returns c =
    with_worker_at c.self.inside (λ (worker : Worker). record worker { taken = worker.taken - 1 })
    c.index.ensures.value c.self.view_is c.index_mut-found.ensures.value c.requires.known
