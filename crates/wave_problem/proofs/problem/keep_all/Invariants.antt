use Rattle.std.proofs.Common.{◌≡◌, ◌≤◌, take, length, vec_capacity}
use Rattle.wave_problem.proofs.problem.keep_all.Given as goal

abbrev pub invariant-loop-line : goal.invariant-loop-line
invariant-loop-line l =
    (l.entries.items ≡ take l.line-index l.lines) × (length l.lines ≤ vec_capacity l.entries)
