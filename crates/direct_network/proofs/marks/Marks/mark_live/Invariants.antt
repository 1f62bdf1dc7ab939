use Rattle.std.proofs.Common.{take}
use Rattle.wave_problem.specs.Wave.{live_among}
use Rattle.direct_network.specs.Marks.{AreMarksTo, Shows}
use Rattle.direct_network.proofs.marks.Marks.mark_live.Given as goal

abbrev pub invariant-loop-holder : goal.invariant-loop-holder
invariant-loop-holder l =
    AreMarksTo l.problem l.mark l.self
    × Shows l.problem.tree (live_among l.problem.workers (take l.holder-index l.holders)) l.mark l.self
