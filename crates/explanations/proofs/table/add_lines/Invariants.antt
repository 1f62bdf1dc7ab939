use Rattle.std.proofs.Common.{◌++◌, ◌≡◌, map, string_bytes, take}
use Rattle.explanations.specs.Table.{lines_of, row_of}
use Rattle.explanations.proofs.table.add_lines.Given as goal

abbrev pub invariant-loop-entry : goal.invariant-loop-entry
invariant-loop-entry l =
    string_bytes l.lines
    ≡ string_bytes l.initial.lines ++ lines_of (map row_of (take l.entry-index l.entries))
