use Rattle.std.proofs.Common.{◌≡◌, ℕ, ◌<◌, ◌≤◌, length}
use Rattle.wave_problem.specs.Wave.{worker_at, worker_in}
use Rattle.tree_flow.specs.Slots.{with_workers}
use Rattle.tree_planner.proofs.kept.Engine.gain.Given as goal

abbrev pub invariant-loop-w : goal.invariant-loop-w
invariant-loop-w l = record {
  rest : l.self.wave ≡ with_workers l.fn.self.wave l.self.wave.workers;
  size : length l.self.wave.workers ≡ length l.fn.self.wave.workers;
  done : (k : ℕ) → k < l.w → worker_at l.self.wave k ≡ worker_in l.lines k;
  left : (k : ℕ) → l.w ≤ k → worker_at l.self.wave k ≡ worker_at l.fn.self.wave k;
}
