use Rattle.std.proofs.Common.{◌++◌, ◌∙◌, ap, string_bytes}
use Rattle.std.specs.List.{slice_index}
use Rattle.plan_text.specs.Report.{price_line}
use Rattle.text_lines.specs.Texts.{name_of}
use Rattle.text_lines.proofs.NumberedLines.{lines_more}
use Rattle.plan_text.proofs.plan_report.add_split_prices.Goals as goal

pub loop-number-preserved : goal.loop-number-preserved
loop-number-preserved c =
    let names = c.args.splits.now in
    let amounts = c.args.prices.now.splits in
    let amount = c.split-price.ensures ∙ ap (slice_index amounts) c.new.ensures in
    lines_more (λ i. price_line (name_of names i) (slice_index amounts i)) _ _ _ c.loop-number.number
    c.loop-number.invariant
    (c.in_ok-add_price.ensures
    ∙ (λ i. string_bytes c.loop-number.lines ++ price_line (c.name_or_empty.ensures i) (amount i)))
