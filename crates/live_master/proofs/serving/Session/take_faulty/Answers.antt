use Rattle.std.proofs.Common.{inl, inr, refl, subst}
use Rattle.std.proofs.lemmas.Result.{IfOk-weaker}
use Rattle.line_rules.specs.Faults.{IsLeastOf}
use Rattle.line_rules.specs.Texts.{LineHas}
use Rattle.live_master.proofs.Sessions.{hears_refused}
use Rattle.live_master.proofs.serving.Session.take_faulty.Goals as goal

pub draft_line-requires-clause-no_command : goal.draft_line-requires-clause-no_command
draft_line-requires-clause-no_command c =
    subst (IsLeastOf (LineHas c.args.self.now.known c.args.line.now)) c.in-Misplaced.is c.requires.least

pub returns-in_default-clause-ok : goal.returns-in_default-clause-ok
returns-in_default-clause-ok c =
    IfOk-weaker c.refuse.result _ _
    (λ turn said. hears_refused c.args.self.now _ c.args.line.now _ _ c.requires.no_request c.args.fault
    (inr (inl (c.requires.short, c.in_default.not-Misplaced, c.requires.least))) refl turn said)
    c.refuse.ensures
