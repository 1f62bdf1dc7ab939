use Rattle.std.proofs.Common.{ap, arith, length}
use Rattle.wave_problem.specs.Wave.{Wave}
use Rattle.tree_planner.proofs.Gained.{all_gained}
use Rattle.tree_planner.proofs.kept.Engine.gain.Goals as goal

pub returns : goal.returns
returns c =
    all_gained c.args.self.now.wave c.loop-w.self.wave c.args.lines.now c.loop-w.invariant.rest
    (omega (arith, c.loop-w.invariant.size, c.requires.size))
    (λ k l. c.loop-w.invariant.done k (let size = c.requires.size in
    let at = ap (λ (x : Wave). length x.workers) c.problem.ensures in omega arith))
