use Rattle.std.proofs.Common.{◌≡◌}
use Rattle.wave_problem.specs.Wave.{worker_at}
use Rattle.tree_planner.specs.Going.{HasLine}
use Rattle.tree_planner.proofs.kept.Engine.lose_down_to.Given as goal

abbrev pub invariant-loop-k : goal.invariant-loop-k
invariant-loop-k l = record {
  only : HasLine l.fn.self.wave l.self.wave l.worker (worker_at l.self.wave l.worker);
  live : (worker_at l.self.wave l.worker).live ≡ (worker_at l.fn.self.wave l.worker).live;
}
