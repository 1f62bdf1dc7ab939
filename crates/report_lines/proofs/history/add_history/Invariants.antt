use Rattle.std.proofs.Common.{◌++◌, ◌≡◌, string_bytes, take}
use Rattle.std.specs.List.{flat_map}
use Rattle.report_lines.specs.History.{event_lines}
use Rattle.report_lines.proofs.history.add_history.Given as goal

abbrev pub invariant-loop-index : goal.invariant-loop-index
invariant-loop-index l =
    string_bytes l.lines ≡ string_bytes l.initial.lines
    ++ flat_map (event_lines l.splits l.workers l.starts l.sweeps.items) (take l.index l.history.items)
