use Rattle.master_core.specs.Near.{flags_of}
use Rattle.master_core.specs.Fitting.{AreOthersLined}
use Rattle.master_core.proofs.Touching.{AreFlaggedBefore}
use Rattle.master_core.proofs.kept_plan.flag_each.Given as goal

abbrev pub invariant-loop-i : goal.invariant-loop-i
invariant-loop-i l = record {
  flags : AreFlaggedBefore l.fn.engine.wave l.engine.wave l.splits (flags_of l.entries) l.i;
  lines : AreOthersLined l.fn.engine.wave l.engine.wave l.started.items;
}
