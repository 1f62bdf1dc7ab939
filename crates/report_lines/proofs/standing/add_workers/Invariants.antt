use Rattle.std.proofs.Common.{◌++◌, ◌≡◌, string_bytes}
use Rattle.std.specs.List.{flat_map, range_with_len}
use Rattle.worker_table.specs.Workers.{worker_at}
use Rattle.report_lines.specs.Standing.{standing_line}
use Rattle.report_lines.proofs.standing.add_workers.Given as goal

abbrev pub invariant-loop-number : goal.invariant-loop-number
invariant-loop-number l =
    string_bytes l.lines ≡ string_bytes l.initial.lines
    ++ flat_map (λ w. standing_line l.names w (worker_at l.table w)) (range_with_len 0 l.number)
