use Rattle.std.proofs.Common.{ap, arith, length}
use Rattle.worker_table.proofs.Sweeps.{length-heard_from, table_swept}
use Rattle.worker_table.specs.View.{table_of}
use Rattle.worker_table.specs.Workers.{Workers}
use Rattle.worker_table.proofs.WorkerTable.sweep.Goals as goal

pub list_silent-requires-clause-few : goal.list_silent-requires-clause-few
list_silent-requires-clause-few c =
    let table = table_swept (table_of c.self.inside) c.args.counts.now c.self.invariant in
    rw (c.deref.ensures.value, c.hear_each.ensures) table.few

pub list_silent-requires-clause-room : goal.list_silent-requires-clause-room
list_silent-requires-clause-room c =
    rw (c.deref.ensures.value, c.hear_each.ensures)
    (omega (
      arith,
      length-heard_from 0 c.self.inside.limit c.self.inside.workers.items c.args.counts.now,
      ap (λ (t : Workers). length t.each) c.self.view_is,
      c.requires.room,
    ))

pub invariant_of-self : goal.invariant_of-self
invariant_of-self c =
    let table = table_swept (table_of c.self.inside) c.args.counts.now c.self.invariant in
    rw c.hear_each.ensures table
