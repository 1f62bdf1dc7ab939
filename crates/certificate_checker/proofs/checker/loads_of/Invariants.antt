use Rattle.std.proofs.Common.{◌≡◌, ℕ, ◌<◌, ◌≤◌, get_or, length, take}
use Rattle.wave_problem.specs.Assignment.{load, pairs_of}
use Rattle.certificate_checker.proofs.checker.loads_of.Given as goal

abbrev pub invariant-loop-i : goal.invariant-loop-i
invariant-loop-i l = record {
  places : length l.loads.items ≡ l.plan.workers;
  counted : (w : ℕ) → w < l.plan.workers
      → get_or l.loads.items w 0 ≡ load (pairs_of (take l.i l.plan.starts)) w;
  few : (w : ℕ) → w < l.plan.workers → get_or l.loads.items w 0 ≤ l.i;
}
