use Rattle.std.proofs.Common.{map}
use Rattle.master_state.specs.Steps.{worker_line}
use Rattle.master_core.proofs.Fitting.{AreFitBefore}
use Rattle.master_core.proofs.kept_plan.fit_each.Given as goal

abbrev pub invariant-loop-i : goal.invariant-loop-i
invariant-loop-i l = AreFitBefore l.fn.engine.wave l.engine.wave l.listed (map worker_line l.workers) l.i
