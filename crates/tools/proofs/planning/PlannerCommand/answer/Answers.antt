use Rattle.std.proofs.Common.{string_bytes}
use Rattle.std.proofs.lemmas.Result.{IfOk-weaker}
use Rattle.line_rules.specs.declared.purpose.Purpose.TheVariants.{Planning}
use Rattle.tools.proofs.BestPlans.{answers_read}
use Rattle.line_rules.proofs.LeastFault.{tells_least}
use Rattle.tools.proofs.planning.PlannerCommand.answer.Goals as goal

pub returns-in-Ok-clause-answers : goal.returns-in-Ok-clause-answers
returns-in-Ok-clause-answers c =
    let text = c.args.text.now in
    let asked = c.args.self.now.0 in
    IfOk-weaker c.planned_answer.result _ _
    (λ given is. answers_read text c.in-Ok.read asked.network asked.prices given.1 (string_bytes given.0)
    c.in-Ok.ensures.ok c.in-Ok.ensures.fit is)
    c.planned_answer.ensures.answer

pub returns-in_ok-line-in-Err-clause-answers : goal.returns-in_ok-line-in-Err-clause-answers
returns-in_ok-line-in-Err-clause-answers c =
    tells_least Planning c.args.text.now c.in-Err.error c.in_ok-line-in-Err.fault
    (string_bytes c.in_ok-line-in-Err.line)
    c.in-Err.ensures.err c.in_ok-line-in-Err.ensures
