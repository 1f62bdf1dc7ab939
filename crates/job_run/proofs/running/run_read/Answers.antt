use Rattle.std.proofs.Common.{IfOk, subst}
use Rattle.job_threads.specs.Outcomes.{IsRecordOf, setup_of}
use Rattle.job_threads.specs.declared.job.Job.{Job}
use Rattle.job_play.specs.PlayAnswer.{cluster_in}
use Rattle.job_run.specs.RunAnswer.{setup_on}
use Rattle.job_run.proofs.Ran.{texts_told, texts_named}
use Rattle.job_run.proofs.running.run_read.Goals as goal

pub tell-requires-clause-named : goal.tell-requires-clause-named
tell-requires-clause-named g c =
    let read = c.args.read in
    let ended = subst (λ (job : Job). IfOk c.run_recorded-ended.result (IsRecordOf (setup_of job)))
    c.in_ok-job.ensures.value c.run_recorded-ended.ensures.record in
    texts_told read.script.names (setup_on (cluster_in read.head)) c.run_recorded-ended.result
    (texts_named read.head read.script c.requires.fit c.requires.known) ended
