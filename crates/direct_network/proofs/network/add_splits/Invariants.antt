use Rattle.std.proofs.Common.{◌*◌}
use Rattle.direct_network.specs.Build.{IsBuilt}
use Rattle.direct_network.specs.Marks.{AreMarksTo}
use Rattle.direct_network.proofs.network.add_splits.Given as goal

abbrev pub invariant-loop-i : goal.invariant-loop-i
invariant-loop-i l = IsBuilt l.problem l.i 0 (257 * l.i) l.network × AreMarksTo l.problem l.i l.marks
