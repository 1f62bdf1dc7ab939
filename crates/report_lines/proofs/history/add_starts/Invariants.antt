use Rattle.std.proofs.Common.{◌+◌, ◌-◌, ◌++◌, ◌≡◌, slice_get, string_bytes}
use Rattle.std.specs.List.{flat_map, range_with_len}
use Rattle.report_lines.specs.History.{start_line}
use Rattle.report_lines.proofs.history.add_starts.Given as goal

abbrev pub invariant-loop-number : goal.invariant-loop-number
invariant-loop-number l =
    string_bytes l.lines ≡ string_bytes l.initial.lines
    ++ flat_map (λ n. start_line l.splits l.workers (l.first + n) (slice_get l.starts (l.first + n - 1)))
    (range_with_len 0 l.number)
