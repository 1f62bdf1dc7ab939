use Rattle.std.proofs.Common.{◌++◌, ◌∙◌}
use Rattle.plan_text.specs.Report.{planned_by, start_lines}
use Rattle.tools.specs.PlanAnswer.{asked_prices}
use Rattle.tools.proofs.planning.lines_on.Goals as goal

pub returns : goal.returns
returns c =
    let v = c.args.read.now in
    let said = c.certified-said.ensures.certified in
    c.in_ok-add_asked.ensures
    ∙ (λ i. c.in_ok-add_starts.ensures i ++ asked_prices c.args.asked v.splits v.workers c.prices.result.now)
    ∙ (λ i. (c.in_ok-lines.ensures i ++ start_lines v.splits v.workers c.plan.result.now.starts)
    ++ asked_prices c.args.asked v.splits v.workers c.prices.result.now)
    ∙ (λ i. (planned_by v.places (said i).count (said i).cost (said i).places
    ++ start_lines v.splits v.workers (c.plan.ensures i).starts)
    ++ asked_prices c.args.asked v.splits v.workers (c.prices.ensures i))
