use Rattle.std.proofs.Common.{map}
use Rattle.master_state.specs.Steps.{worker_line}
use Rattle.tree_planner.proofs.Gained.{AreFit}
use Rattle.master_core.proofs.kept_plan.fit_all.Given as goal

abbrev pub invariant-loop-w : goal.invariant-loop-w
invariant-loop-w l = AreFit l.fn.engine.wave l.engine.wave (map worker_line l.workers) l.w
