use Rattle.tools.proofs.BestPlans.{free_certified}
use Rattle.tools.proofs.planning.best_plan.Goals as goal

pub returns-then-is_free-clause-certified : goal.returns-then-is_free-clause-certified
returns-then-is_free-clause-certified c =
    let v = c.args.read.now in
    let made = c.plan_with.ensures in
    free_certified v.problem v.places c.plan_with.result (c.is_free.ensures.0 c.if-is_free.true) made.certifies
    made.count made.cost made.places
