use Rattle.std.proofs.Common.{◌≡◌, ◌-◌, ◌≤◌, length, ℕ}
use Rattle.std.specs.Prelude.{filter, fold}
use Rattle.std.specs.List.{range_with_len}
use Rattle.worker_table.specs.Workers.{is_silent}
use Rattle.report_lines.specs.Past.{without_dead}
use Rattle.report_lines.proofs.replaying.sweep.Given as goal

-- the deaths of the silent workers from the next number on lead to the tables after all deaths
abbrev pub invariant-loop-number : goal.invariant-loop-number
invariant-loop-number l =
    let heard = l.initial.tables.workers in
    let n = length heard.each in
    record {
      same : length l.tables.workers.each ≡ n;
      later : (w : ℕ) → l.number ≤ w → is_silent l.tables.workers w ≡ is_silent heard w;
      rest : fold without_dead l.tables (filter (is_silent heard) (range_with_len l.number (n - l.number)))
          ≡ fold without_dead l.initial.tables (filter (is_silent heard) (range_with_len 0 n));
    }
