use Rattle.job_threads.proofs.Planning.{aheads_plan, waves_plan}
use Rattle.job_threads.proofs.starting.plan.Goals as goal

pub returns-in-Some : goal.returns-in-Some
returns-in-Some g c =
    aheads_plan _ _ _ _ c.start_ahead.result _ c.in-Some.ensures.value c.start_ahead.ensures.kept
    c.start_ahead.ensures.step
