use Rattle.std.proofs.Common.{List, ℕ, arith, string_bytes, subst, sym}
use Rattle.std.proofs.lemmas.Grind.{common_steps}
use Rattle.std.proofs.lemmas.Result.{IfOk-weaker}
use Rattle.std.specs.declared.result.Result.{Result}
use Rattle.text_lines.specs.declared.fault.TextFault.{TextFault}
use Rattle.plan_text.specs.Reading.{IsReadingOf}
use Rattle.plan_text.specs.declared.built.PlanText.{PlanText}
use Rattle.line_rules.specs.declared.purpose.Purpose.TheVariants.{Checking}
use Rattle.line_rules.proofs.LeastFault.{tells_least}
use Rattle.tools.specs.CheckAnswer.{AnswersRead, CheckAnswer, Judges, claim_of}
use Rattle.tools.specs.declared.program_end.CheckEnd.{CheckEnd}
use Rattle.tools.proofs.checking.CheckerCommand.answer.Goals as goal

judges_read : (text : List ℕ) (v : PlanText) (end : CheckEnd) (line : List ℕ) → IsReadingOf text v
    → Judges end (claim_of v) v.splits v.workers line → AnswersRead text end line
judges_read text v end line read judges =
    let splits_are = read.declares.splits in
    let workers_are = read.declares.workers in
    let starts_are = read.declares.starts in
    let prices_are = read.declares.prices in
    let places_are = read.declares.places in
    grind (arith, common_steps)

pub returns-in-Ok-clause-answers : goal.returns-in-Ok-clause-answers
returns-in-Ok-clause-answers g c =
    let text = c.args.text.now in
    IfOk-weaker c.checked_answer.result _ _
    (λ given is. subst (λ (end : Result CheckEnd TextFault). CheckAnswer text end (string_bytes given.0))
    (sym is.1) (judges_read text c.in-Ok.read is.0 (string_bytes given.0) c.in-Ok.ensures.ok is.2))
    c.checked_answer.ensures.answer

pub returns-in_ok-line-in-Err-clause-answers : goal.returns-in_ok-line-in-Err-clause-answers
returns-in_ok-line-in-Err-clause-answers g c =
    tells_least Checking c.args.text.now c.in-Err.error c.in_ok-line-in-Err.fault
    (string_bytes c.in_ok-line-in-Err.line)
    c.in-Err.ensures.err c.in_ok-line-in-Err.ensures
