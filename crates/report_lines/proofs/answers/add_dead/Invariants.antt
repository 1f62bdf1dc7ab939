use Rattle.std.proofs.Common.{◌++◌, ◌≡◌, string_bytes, take}
use Rattle.std.specs.List.{flat_map}
use Rattle.report_lines.specs.Lines.{dead_line}
use Rattle.report_lines.proofs.answers.add_dead.Given as goal

abbrev pub invariant-loop-worker : goal.invariant-loop-worker
invariant-loop-worker l =
    string_bytes l.lines ≡ string_bytes l.initial.lines
    ++ flat_map (dead_line l.workers) (take l.worker-index l.dead)
