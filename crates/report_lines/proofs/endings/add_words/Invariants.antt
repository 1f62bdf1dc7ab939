use Rattle.std.proofs.Common.{◌++◌, ◌≡◌, string_bytes, take}
use Rattle.std.specs.List.{flat_map}
use Rattle.report_lines.specs.Lines.{found_line}
use Rattle.report_lines.proofs.endings.add_words.Given as goal

abbrev pub invariant-loop-entry : goal.invariant-loop-entry
invariant-loop-entry l =
    string_bytes l.lines ≡ string_bytes l.initial.lines
    ++ flat_map (found_line l.documents) (take l.entry-index l.entries)
