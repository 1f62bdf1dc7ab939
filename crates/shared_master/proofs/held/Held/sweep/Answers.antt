use Rattle.std.proofs.Common.{arith, refl}
use Rattle.std.proofs.lemmas.Grind.{common_steps}
use Rattle.shared_master.proofs.Stepping.{counted, takes}
use Rattle.shared_master.proofs.held.Held.sweep.Goals as goal

pub invariant_of-self : goal.invariant_of-self
invariant_of-self g c = grind (arith, common_steps)

pub enter-requires-clause-counts : goal.enter-requires-clause-counts
enter-requires-clause-counts g c =
    counted _ _ _ _ 1 refl refl refl (takes _ _ _ _ c.sweep-answer.ensures.answer.answer)
