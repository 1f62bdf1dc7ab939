use Rattle.worker_table.specs.Workers.{Workers}
use Rattle.worker_table.specs.declared.WorkerTable.TheInside.{Inside}

-- the fields of a table as the table that callers see
abbrev pub table_of : Inside → Workers
table_of t = record { limit = t.limit; each = t.workers.items; barred = t.bars }
