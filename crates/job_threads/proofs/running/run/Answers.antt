use Rattle.job_threads.proofs.running.run.Goals as goal

pub returns-clause-outcome : goal.returns-clause-outcome
returns-clause-outcome g c = c.outcome_of.ensures _ c.in_ok-run_recorded.ensures.record
