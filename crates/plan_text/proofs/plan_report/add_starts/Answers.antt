use Rattle.std.proofs.Common.{◌++◌, ◌∙◌, ap, string_bytes}
use Rattle.wave_problem.specs.Assignment.{start_of}
use Rattle.plan_text.specs.Report.{start_line}
use Rattle.text_lines.specs.Texts.{name_of}
use Rattle.text_lines.proofs.NumberedLines.{lines_more}
use Rattle.plan_text.proofs.plan_report.add_starts.Goals as goal

pub loop-number-preserved : goal.loop-number-preserved
loop-number-preserved c =
    let splits = c.args.splits.now in
    let workers = c.args.workers.now in
    let starts = c.args.plan.now.starts in
    let start = c.of-start.ensures.start ∙ ap (start_of starts) c.new.ensures in
    lines_more (λ i. start_line workers (name_of splits i) (start_of starts i)) _ _ _ c.loop-number.number
    c.loop-number.invariant
    (c.in_ok-add_start.ensures
    ∙ (λ i. string_bytes c.loop-number.lines ++ start_line workers (c.name_or_empty.ensures i) (start i)))
