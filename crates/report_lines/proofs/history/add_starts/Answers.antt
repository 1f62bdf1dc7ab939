use Rattle.std.proofs.Common.{◌+◌, ◌-◌, ◌++◌, ◌∙◌, ℕ, List, ap, slice_get, string_bytes}
use Rattle.text_lines.proofs.NumberedLines.{lines_more}
use Rattle.report_lines.specs.History.{start_line}
use Rattle.report_lines.proofs.history.add_starts.Goals as goal

pub loop-number-preserved : goal.loop-number-preserved
loop-number-preserved c =
    let splits = c.args.splits.now in
    let workers = c.args.workers.now in
    let starts = c.args.starts.now in
    let n = c.loop-number.number in
    let line : ℕ → List ℕ = λ a. start_line splits workers a (slice_get starts (a - 1)) in
    lines_more (λ i. line (c.args.first + i)) _ _ _ n c.loop-number.invariant
    (c.in_ok-add_started.ensures
    ∙ ap (λ start. string_bytes c.loop-number.lines ++ start_line splits workers (c.index.result + n) start)
    c.start_at-start.ensures
    ∙ ap (λ first. string_bytes c.loop-number.lines ++ line (first + n)) c.index.ensures.value)
