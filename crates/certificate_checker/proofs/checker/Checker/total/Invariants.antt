use Rattle.std.proofs.Common.{◌≡◌, ◌≤◌, ◌*◌, take}
use Rattle.wave_problem.specs.Assignment.{total, pairs_of}
use Rattle.certificate_checker.proofs.checker.Checker.total.Given as goal

abbrev pub invariant-loop-i : goal.invariant-loop-i
invariant-loop-i l = (l.total ≡ total l.self.wave (pairs_of (take l.i l.self.starts)))
    × (l.total ≤ 51539607552 * l.i)
