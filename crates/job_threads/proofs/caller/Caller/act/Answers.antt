use Rattle.std.proofs.Common.{◌∙◌}
use Rattle.job_threads.proofs.caller.Caller.act.Goals as goal

pub returns-in-Sweep-clause-sweep : goal.returns-in-Sweep-clause-sweep
returns-in-Sweep-clause-sweep g c =
    λ is due. rw c.shown-glance.ensures.value at (c.sweep_on-in-Sweep.ensures.swept (c.is_due.ensures ∙ due))
