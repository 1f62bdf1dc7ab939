use Rattle.std.proofs.Common.{◌≡◌, length, take}
use Rattle.std.specs.Prelude.{fold}
use Rattle.worker_table.specs.Workers.{with_death}
use Rattle.master_tables.proofs.deaths.bury_each.Given as goal

-- those so far have died, and the table is as long as before
abbrev pub invariant-loop-worker : goal.invariant-loop-worker
invariant-loop-worker l = record {
  died : l.workers ≡ fold with_death l.fn.workers (take l.worker-index l.dead);
  same : length l.workers.each ≡ length l.fn.workers.each;
}
