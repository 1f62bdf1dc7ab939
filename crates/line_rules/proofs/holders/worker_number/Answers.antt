use Rattle.std.proofs.Common.{◌∙◌, Some, sym}
use Rattle.line_rules.proofs.Held.{worker_numbered}
use Rattle.line_rules.proofs.Paired.{some_length}
use Rattle.line_rules.proofs.holders.worker_number.Goals as goal

pub returns-in-None : goal.returns-in-None
returns-in-None c =
    worker_numbered c.args.rows.now c.args.name.now c.number.result
    (some_length _ (sym c.is_empty.ensures ∙ c.if-is_empty.false)) c.number.ensures

pub returns-in-Some : goal.returns-in-Some
returns-in-Some c =
    worker_numbered c.args.rows.now c.args.name.now (Some c.in-Some.number)
    (some_length _ (sym c.is_empty.ensures ∙ c.if-is_empty.false)) c.in-Some.ensures
