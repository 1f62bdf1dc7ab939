use Rattle.std.proofs.Common.{subst}
use Rattle.std.specs.Prelude.{IfOk}
use Rattle.job_threads.specs.Outcomes.{IsRecordOf}
use Rattle.job_run.proofs.running.tell.Goals as goal

pub returns-in_ok-lines-in-Ok-clause-tells : goal.returns-in_ok-lines-in-Ok-clause-tells
returns-in_ok-lines-in-Ok-clause-tells g c =
    λ given kept.
    c.in_ok-lines-in-Ok.ensures given (subst (λ r. IfOk r (IsRecordOf given)) c.in-Ok.is kept)
