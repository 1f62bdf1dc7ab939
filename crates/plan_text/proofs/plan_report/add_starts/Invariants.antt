use Rattle.std.proofs.Common.{◌++◌, ◌≡◌, string_bytes}
use Rattle.std.specs.List.{flat_map, range_with_len}
use Rattle.wave_problem.specs.Assignment.{start_of}
use Rattle.plan_text.specs.Report.{start_line}
use Rattle.text_lines.specs.Texts.{name_of}
use Rattle.plan_text.proofs.plan_report.add_starts.Given as goal

abbrev pub invariant-loop-number : goal.invariant-loop-number
invariant-loop-number l =
    string_bytes l.lines ≡ string_bytes l.initial.lines
    ++ flat_map (λ s. start_line l.workers (name_of l.splits s) (start_of l.plan.starts s))
    (range_with_len 0 l.number)
