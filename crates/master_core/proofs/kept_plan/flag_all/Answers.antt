use Rattle.master_core.specs.Near.{flags_of}
use Rattle.std.proofs.Common.{length, ap, arith}
use Rattle.wave_problem.specs.Wave.{Wave}
use Rattle.tree_planner.proofs.Flagged.{flagged_already, splits_same}
use Rattle.master_core.proofs.Nearness.{length-flags}
use Rattle.master_core.proofs.kept_plan.flag_all.Goals as goal

pub returns-clause-flagged : goal.returns-clause-flagged
returns-clause-flagged c =
    let now = c.loop-s.engine.wave in
    let same = splits_same c.args.engine.now.wave now c.loop-s.invariant.ground in
    flagged_already now.splits (flags_of c.args.entries.now) (let flags = length-flags c.args.entries.now in omega (arith, same, c.requires))
    (λ k l. c.loop-s.invariant.done k
    (let at = ap (λ (x : Wave). length x.splits) c.problem.ensures in omega (arith, same)))
