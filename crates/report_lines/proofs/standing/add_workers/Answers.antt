use Rattle.std.proofs.Common.{ℕ, List}
use Rattle.worker_table.specs.Workers.{worker_at}
use Rattle.text_lines.proofs.NumberedLines.{lines_more}
use Rattle.report_lines.specs.Standing.{standing_line}
use Rattle.report_lines.proofs.standing.add_workers.Goals as goal

pub loop-number-preserved : goal.loop-number-preserved
loop-number-preserved c =
    let f : ℕ → List ℕ = λ w. standing_line c.args.names.now w (worker_at c.args.table.now w) in
    lines_more f _ _ _ c.loop-number.number c.loop-number.invariant c.in_ok-add_worker.ensures
