use Rattle.std.proofs.Common.{Err, ◌∙◌, ap, inl, inr, refl}
use Rattle.std.proofs.lemmas.Result.{IfOk-weaker}
use Rattle.line_shapes.specs.Lines.{statement_of}
use Rattle.text_lines.specs.declared.fault.Fault.TheVariants.{SecondEntry}
use Rattle.live_master.specs.Serving.{live_of}
use Rattle.live_master.proofs.PlanLines.{plan_line_whole}
use Rattle.live_master.proofs.Sessions.{hears_drafted, hears_refused}
use Rattle.live_master.proofs.serving.Session.draft_line.Goals as goal

pub take-requires-clause-line : goal.take-requires-clause-line
take-requires-clause-line c =
    plan_line_whole (live_of c.args.self.now) c.args.line.now (statement_of c.in-Ok.said) c.requires.ready.named
    c.requires.no_command c.in-Ok.ensures.ok

pub returns-in-Ok-clause-ok : goal.returns-in-Ok-clause-ok
returns-in-Ok-clause-ok c =
    let taken = c.take.ensures.taken c.if-take.true in
    hears_drafted c.args.self.now _ c.args.line.now _ _ (statement_of c.in-Ok.said)
    (record {
      short = c.requires.short;
      no_command = c.requires.no_command;
      fit = c.in-Ok.ensures.ok;
    })
    taken.0 (λ i. record (live_of c.args.self.now) { known = c.fit_plan_line.ensures.same i; draft = taken.1 i }) refl

pub returns-in-Ok-2-clause-ok : goal.returns-in-Ok-2-clause-ok
returns-in-Ok-2-clause-ok c =
    let second = c.take.ensures.second c.if-take.false in
    IfOk-weaker c.refuse.result _ _
    (λ turn said. hears_refused c.args.self.now _ c.args.line.now _ _ c.requires.no_request SecondEntry
    (inr (inr (
      c.requires.short,
      c.requires.no_command,
      inr (refl, statement_of c.in-Ok.said, c.in-Ok.ensures.ok, second.0),
    )))
    (λ i. record (live_of c.args.self.now) { known = c.fit_plan_line.ensures.same i; draft = second.1 i }) turn said)
    c.refuse.ensures

pub returns-in-Err-Fault-clause-ok : goal.returns-in-Err-Fault-clause-ok
returns-in-Err-Fault-clause-ok c =
    let least = rw (c.in-Err-Fault.is ∙ ap Err c.in-Err-Fault.field-0-is) at c.fit_plan_line.ensures.err in
    IfOk-weaker c.refuse-in-Err-Fault.result _ _
    (λ turn said. hears_refused c.args.self.now _ c.args.line.now _ _ c.requires.no_request c.in-Err-Fault.fault
    (inr (inr (c.requires.short, c.requires.no_command, inl least)))
    (λ i. record (live_of c.args.self.now) { known = c.fit_plan_line.ensures.same i }) turn said)
    c.refuse-in-Err-Fault.ensures
