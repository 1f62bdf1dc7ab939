use Rattle.std.proofs.Common.{◌≡◌, ℕ, ◌<◌, length}
use Rattle.wave_problem.specs.Wave.{worker_at, worker_in}
use Rattle.tree_flow.specs.Slots.{with_workers}
use Rattle.tree_planner.proofs.renewed.put_lines.Given as goal

abbrev pub invariant-loop-w : goal.invariant-loop-w
invariant-loop-w l = record {
  rest : l.problem ≡ with_workers l.fn.problem l.problem.workers;
  size : length l.problem.workers ≡ length l.fn.problem.workers;
  done : (k : ℕ) → k < l.w → worker_at l.problem k ≡ worker_in l.lines k;
}
