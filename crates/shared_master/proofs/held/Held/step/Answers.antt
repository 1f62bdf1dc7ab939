use Rattle.std.proofs.Common.{arith}
use Rattle.std.proofs.lemmas.Grind.{common_steps}
use Rattle.shared_master.proofs.Stepping.{counted_none, takes}
use Rattle.shared_master.proofs.held.Held.step.Goals as goal

pub enter-requires-clause-counts : goal.enter-requires-clause-counts
enter-requires-clause-counts g c =
    counted_none _ c.args.call.now _ _ (takes _ _ _ _ c.ask-answer.ensures)

pub invariant_of-self : goal.invariant_of-self
invariant_of-self g c = grind (arith, common_steps)
