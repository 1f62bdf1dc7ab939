use Rattle.std.proofs.Common.{◌++◌, ◌≡◌, string_bytes, take}
use Rattle.std.specs.List.{flat_map}
use Rattle.report_lines.specs.Lines.{copy_line}
use Rattle.report_lines.proofs.answers.add_copies.Given as goal

abbrev pub invariant-loop-order : goal.invariant-loop-order
invariant-loop-order l =
    string_bytes l.lines ≡ string_bytes l.initial.lines
    ++ flat_map (copy_line l.splits l.workers) (take l.order-index l.orders)
