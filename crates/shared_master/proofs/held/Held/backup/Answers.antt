use Rattle.std.proofs.Common.{ap, arith, refl}
use Rattle.std.proofs.lemmas.Grind.{common_steps}
use Rattle.shared_master.specs.Held.{HeldValue}
use Rattle.shared_master.proofs.Stepping.{counted, stepped, takes}
use Rattle.shared_master.proofs.held.Held.backup.Goals as goal

pub returns-clause-step : goal.returns-clause-step
returns-clause-step g c =
    stepped (ap (λ (h : HeldValue). h.job) c.self.view_is) c.in_default.ensures
    c.backup-answer.ensures.answer c.enter.ensures.hand

pub invariant_of-self : goal.invariant_of-self
invariant_of-self g c = grind (arith, common_steps)

pub enter-requires-clause-counts : goal.enter-requires-clause-counts
enter-requires-clause-counts g c =
    counted _ _ _ _ 0 refl refl refl (takes _ _ _ _ c.backup-answer.ensures.answer)
