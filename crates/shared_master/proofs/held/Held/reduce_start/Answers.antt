use Rattle.std.proofs.Common.{ap, arith, refl}
use Rattle.std.proofs.lemmas.Grind.{common_steps}
use Rattle.master_state.specs.Refusals.{ReduceStart}
use Rattle.shared_master.specs.Held.{HeldValue}
use Rattle.shared_master.proofs.Stepping.{counted, replies, stepped_reduce, takes_reduce}
use Rattle.shared_master.proofs.held.Held.reduce_start.Goals as goal

pub returns-clause-step : goal.returns-clause-step
returns-clause-step g c =
    stepped_reduce (ap (λ (h : HeldValue). h.job) c.self.view_is) c.in_default.ensures
    c.reduce_start-answer.ensures c.enter.ensures.hand

pub returns-clause-reply : goal.returns-clause-reply
returns-clause-reply g c =
    replies c.reduce_start-answer.result (returns-clause-step g c) c.is_of_job.ensures c.is_kept.ensures

pub invariant_of-self : goal.invariant_of-self
invariant_of-self g c = grind (arith, common_steps)

pub enter-requires-clause-counts : goal.enter-requires-clause-counts
enter-requires-clause-counts g c =
    counted _ ReduceStart _ _ 0 refl refl refl (takes_reduce _ _ _ c.reduce_start-answer.ensures)
