use Rattle.std.proofs.Common.{◌≡◌, ◌++◌, ◌-◌, [], drop, length, take}
use Rattle.std.specs.Prelude.{slice_index_or}
use Rattle.worker_table.specs.Workers.{heard_from}
use Rattle.report_lines.proofs.replaying.hear.Given as goal

-- what has been heard so far, and what will be of the rest
abbrev pub invariant-loop-number : goal.invariant-loop-number
invariant-loop-number l =
    let row = slice_index_or l.sweeps.items (l.place - 1) [] in
    record {
      size : length l.workers.each ≡ length l.initial.workers.each;
      each : take l.number l.workers.each
          ++ heard_from l.number l.workers.limit (drop l.number l.workers.each) row
          ≡ heard_from 0 l.workers.limit l.initial.workers.each row;
      same : l.workers ≡ record l.initial.workers { each = l.workers.each };
    }
