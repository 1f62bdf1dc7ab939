use Rattle.std.proofs.Common.{ap, refl}
use Rattle.shared_master.specs.Held.{HeldValue}
use Rattle.shared_master.proofs.Stepping.{counted, stepped, takes}
use Rattle.shared_master.proofs.held.Held.part_done.Goals as goal

pub returns-clause-step : goal.returns-clause-step
returns-clause-step g c =
    stepped (ap (λ (h : HeldValue). h.job) c.self.view_is) c.in_default.ensures
    c.part_done-answer.ensures.answer c.enter.ensures.hand

pub enter-requires-clause-counts : goal.enter-requires-clause-counts
enter-requires-clause-counts g c =
    counted _ _ _ _ 0 refl refl refl (takes _ _ _ _ c.part_done-answer.ensures.answer)
