use Rattle.shared_master.proofs.Waving.{solved_as, unasked}
use Rattle.shared_master.proofs.shared.SharedMaster.solved.Goals as goal

pub returns-in-Ok : goal.returns-in-Ok
returns-in-Ok g c =
    solved_as _ _ _ _ c.solve.result _ c.in-Ok.ensures.of_job c.in-Ok.ensures.asked.0 c.in-Ok.ensures.asked.1
    c.in-Ok.ensures.splits c.in-Ok.ensures.workers c.solve.ensures.over c.solve.ensures.best c.solve.ensures.sizes
    c.solve.ensures.starts c.solve.ensures.room c.solve.ensures.err

pub returns-in-Err : goal.returns-in-Err
returns-in-Err g c =
    unasked _ _ _ c.in-Err.error _ c.in-Err.ensures.of_job c.in-Err.ensures.asked.0 c.in-Err.ensures.asked.1
