use Rattle.std.proofs.lemmas.Result.{IfOk-weaker}
use Rattle.line_shapes.specs.Lines.{statement_of}
use Rattle.live_master.proofs.Sessions.{hears_obeyed}
use Rattle.live_master.proofs.serving.Session.take.Goals as goal

pub obey-requires-clause-fit : goal.obey-requires-clause-fit
obey-requires-clause-fit c = (c.args.line.now, c.in-Ok.ensures.ok)

pub returns-in-Ok-clause-ok : goal.returns-in-Ok-clause-ok
returns-in-Ok-clause-ok c =
    IfOk-weaker c.obey.result _ _
    (λ turn obeys. hears_obeyed c.args.self.now _ c.args.line.now _ _ (statement_of c.in-Ok.said) turn c.requires.short
    c.in-Ok.ensures.ok obeys)
    c.obey.ensures.ok

pub take_faulty-requires-clause-least : goal.take_faulty-requires-clause-least
take_faulty-requires-clause-least c = rw c.in-Err-Fault.field-0-is at c.in-Err-Fault.ensures.err
