use Rattle.std.proofs.Common.{◌∷◌, ℕ, List, slice_index_or}
use Rattle.std.specs.Fmt.{decimal}
use Rattle.text_lines.proofs.NumberedLines.{lines_more}
use Rattle.report_lines.proofs.history.add_sweep.Goals as goal

pub loop-number-preserved : goal.loop-number-preserved
loop-number-preserved c =
    let f : ℕ → List ℕ = λ w. 32 ∷ decimal (slice_index_or c.args.counts.now w 0) in
    lines_more f _ _ _ c.loop-number.number c.loop-number.invariant c.in_ok-add_count.ensures
