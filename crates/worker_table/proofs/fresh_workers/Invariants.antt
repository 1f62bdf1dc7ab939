use Rattle.std.proofs.Common.{◌≡◌, take, map}
use Rattle.std.specs.Prelude.{All}
use Rattle.worker_table.specs.Workers.{fresh, IsWithin}
use Rattle.worker_table.proofs.fresh_workers.Given as goal

abbrev pub invariant-loop-slots : goal.invariant-loop-slots
invariant-loop-slots l = record {
  so_far : l.workers.items ≡ map fresh (take l.slots-index l.fn.slots);
  within : All (IsWithin l.limit) l.workers.items;
}
