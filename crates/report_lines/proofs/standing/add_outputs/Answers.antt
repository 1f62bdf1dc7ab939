use Rattle.std.proofs.Common.{refl, rules}
use Rattle.report_lines.specs.Standing.{output_of}
use Rattle.report_lines.proofs.NumberedRows.{rows_more}
use Rattle.report_lines.proofs.standing.add_outputs.Goals as goal

pub loop-number-preserved : goal.loop-number-preserved
loop-number-preserved c =
    rows_more (output_of c.args.splits.now c.args.workers.now) c.args.states.now _ _ _ _ _ _ _
    c.index-states-number.is refl c.loop-number.invariant c.in_ok-add_output.ensures (search rules)
