use Rattle.std.proofs.Common.{◌≡◌, ℕ, ◌<◌, false, get_or}
use Rattle.worker_table.specs.Workers.{has_free_slot}
use Rattle.worker_table.specs.declared.Worker.{Worker}
use Rattle.worker_table.proofs.first_free.Given as goal

abbrev pub invariant-loop-i : goal.invariant-loop-i
invariant-loop-i l = (k : ℕ) (d : Worker) → k < l.i → has_free_slot (get_or l.workers k d) ≡ false
