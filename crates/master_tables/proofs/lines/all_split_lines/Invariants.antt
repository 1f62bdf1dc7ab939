use Rattle.std.proofs.Common.{◌≡◌, ◌++◌, map}
use Rattle.master_tables.specs.Entries.{shown_as}
use Rattle.master_tables.specs.Lines.{split_lines}
use Rattle.master_tables.proofs.WaveLines.{lines_from}
use Rattle.master_tables.proofs.lines.all_split_lines.Given as goal

abbrev pub invariant-loop-i : goal.invariant-loop-i
invariant-loop-i l =
    l.all.items ++ lines_from l.i l.lines l.entries l.holders
    ≡ split_lines l.lines (map shown_as l.entries) l.holders
