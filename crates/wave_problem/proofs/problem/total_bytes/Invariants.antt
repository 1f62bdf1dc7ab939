use Rattle.std.proofs.Common.{◌≡◌, ◌*◌, ◌≤◌, take, sum_by}
use Rattle.wave_problem.proofs.problem.total_bytes.Given as goal

abbrev pub invariant-loop-split : goal.invariant-loop-split
invariant-loop-split l = (l.total ≡ sum_by (λ split. split.bytes) (take l.split-index l.splits))
    × (l.total ≤ 8589934592 * l.split-index)
