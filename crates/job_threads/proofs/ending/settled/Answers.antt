use Rattle.std.proofs.Common.{refl}
use Rattle.job_threads.proofs.ending.settled.Goals as goal

pub returns-in-Err : goal.returns-in-Err
returns-in-Err g c = (c.in-Err.torn.place, (c.in-Err.ensures.2, c.in-Err.ensures.3), refl)
