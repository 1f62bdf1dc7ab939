use Rattle.std.proofs.Common.{◌++◌, ◌≡◌, string_bytes}
use Rattle.std.specs.List.{range_with_len}
use Rattle.report_lines.specs.Lines.{is_open, lines_of_those, open_line}
use Rattle.report_lines.proofs.endings.add_stuck.Given as goal

abbrev pub invariant-loop-number : goal.invariant-loop-number
invariant-loop-number l =
    string_bytes l.lines ≡ string_bytes l.initial.lines
    ++ lines_of_those (is_open l.states) (open_line l.splits) (range_with_len 0 l.number)
