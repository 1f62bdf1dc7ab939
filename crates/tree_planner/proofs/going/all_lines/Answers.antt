use Rattle.std.proofs.Common.{arith}
use Rattle.std.proofs.lemmas.List.{ext_get_or}
use Rattle.tree_planner.proofs.Gained.{no_line}
use Rattle.tree_planner.proofs.going.all_lines.Goals as goal

pub returns : goal.returns
returns c =
    ext_get_or no_line c.loop-w.lines.items c.args.problem.now.workers (omega (arith, c.loop-w.invariant.size))
    (λ i l. c.loop-w.invariant.each i (omega arith))
