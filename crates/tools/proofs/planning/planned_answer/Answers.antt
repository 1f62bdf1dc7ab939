use Rattle.std.proofs.Common.{◌++◌, ◌∙◌}
use Rattle.tools.specs.PlanAnswer.{asked_prices}
use Rattle.tools.proofs.BestPlans.{plans_problem, small_reward}
use Rattle.tools.proofs.planning.planned_answer.Goals as goal

pub returns-in_ok-lines-in-Ok-clause-answer : goal.returns-in_ok-lines-in-Ok-clause-answer
returns-in_ok-lines-in-Ok-clause-answer c =
    let v = c.args.read.now in
    let asked = c.args.options in
    let best = c.in-Ok.best in
    plans_problem asked.network asked.prices v best.plan.starts best.prices best.plan.workers best.certified _
    c.requires.splits c.requires.workers (λ past. (let none = c.in-Ok.ensures.size.1 past in cc))
    c.in-Ok.ensures.over c.in-Ok.ensures.sizes c.in-Ok.ensures.certified c.in-Ok.ensures.best
    (small_reward v.places v.problem c.limits-2.ensures c.limits.ensures.problem) c.in_ok-lines-in-Ok.ensures
