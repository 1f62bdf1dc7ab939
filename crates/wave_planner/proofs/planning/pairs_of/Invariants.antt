use Rattle.std.proofs.Common.{◌≡◌, take}
use Rattle.wave_problem.specs.Assignment.{pairs_of}
use Rattle.wave_planner.proofs.planning.pairs_of.Given as goal

abbrev pub invariant-loop-s : goal.invariant-loop-s
invariant-loop-s l = l.pairs.items ≡ pairs_of (take l.s l.plan.starts)
