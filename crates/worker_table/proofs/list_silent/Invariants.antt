use Rattle.std.proofs.Common.{◌≡◌, ◌<◌, ◌≤◌, All, length}
use Rattle.std.specs.Prelude.{filter}
use Rattle.std.specs.List.{range_with_len}
use Rattle.worker_table.specs.Bars.{no_bars}
use Rattle.worker_table.specs.Workers.{Workers, is_silent}
use Rattle.worker_table.proofs.list_silent.Given as goal

-- those so far are listed, each below the next worker
abbrev pub invariant-loop-i : goal.invariant-loop-i
invariant-loop-i l =
    let t : Workers = record { limit = l.limit; each = l.workers; barred = no_bars 0 0 } in
    record {
      items : l.dead.items ≡ filter (is_silent t) (range_with_len 0 l.i);
      below : All (λ other. other < l.i) l.dead.items;
      few : length l.dead.items ≤ l.i;
      room : l.dead.room ≡ l.fn.dead.room;
    }
