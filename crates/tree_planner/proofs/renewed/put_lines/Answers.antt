use Rattle.std.proofs.Common.{arith}
use Rattle.tree_planner.proofs.Gained.{all_gained}
use Rattle.tree_planner.proofs.renewed.put_lines.Goals as goal

pub returns : goal.returns
returns c =
    all_gained c.args.problem.now c.loop-w.problem c.args.lines.now c.loop-w.invariant.rest
    (omega (arith, c.loop-w.invariant.size, c.requires.workers))
    (λ k l. c.loop-w.invariant.done k (omega arith))
