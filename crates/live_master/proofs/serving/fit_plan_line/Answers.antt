use Rattle.std.proofs.Common.{subst}
use Rattle.std.specs.Prelude.{IfErr}
use Rattle.line_rules.specs.Known.{Known}
use Rattle.line_rules.specs.Reading.{IsLeastError}
use Rattle.line_rules.specs.Texts.{LineHas}
use Rattle.live_master.proofs.serving.fit_plan_line.Goals as goal

pub returns-clause-err : goal.returns-clause-err
returns-clause-err c =
    subst (λ (k : Known). IfErr c.fit_line-said.result (IsLeastError (LineHas k c.args.line.now))) c.turn_to.ensures
    c.fit_line-said.ensures.err
