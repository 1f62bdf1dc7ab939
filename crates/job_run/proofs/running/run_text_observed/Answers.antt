use Rattle.job_run.proofs.running.run_text_observed.Goals as goal

pub returns-clause-ran : goal.returns-clause-ran
returns-clause-ran g c = rw c.told.ensures c.run_job.ensures.ran
