use Rattle.std.proofs.Common.{◌≡◌, ℕ, ◌<◌, length}
use Rattle.wave_problem.specs.Wave.{worker_at, worker_in}
use Rattle.tree_planner.proofs.going.all_lines.Given as goal

abbrev pub invariant-loop-w : goal.invariant-loop-w
invariant-loop-w l = record {
  size : length l.lines.items ≡ l.w;
  each : (k : ℕ) → k < l.w → worker_in l.lines.items k ≡ worker_at l.problem k;
}
