use Rattle.std.proofs.Common.{rules}
use Rattle.report_lines.specs.Standing.{open_split}
use Rattle.report_lines.proofs.NumberedRows.{rows_more}
use Rattle.report_lines.proofs.standing.add_open_splits.Goals as goal

pub loop-number-preserved : goal.loop-number-preserved
loop-number-preserved c =
    rows_more (open_split c.args.splits.now c.args.workers.now) c.args.states.now _ _ _ _ _ _ _
    c.index-states-number.is c.new-split.ensures c.loop-number.invariant c.in_ok-add_open_split.ensures
    (search rules)
