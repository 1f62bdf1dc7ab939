use Rattle.master_core.specs.Near.{flags_of}
use Rattle.std.proofs.Common.{◌≡◌, ℕ, ◌<◌, false, get_or}
use Rattle.wave_problem.specs.Wave.{split_at}
use Rattle.tree_planner.specs.Going.{HasSameGround}
use Rattle.master_core.proofs.kept_plan.flag_all.Given as goal

abbrev pub invariant-loop-s : goal.invariant-loop-s
invariant-loop-s l = record {
  ground : HasSameGround l.fn.engine.wave l.engine.wave;
  done : (k : ℕ) → k < l.s → (split_at l.engine.wave k).pending ≡ get_or (flags_of l.entries) k false;
}
