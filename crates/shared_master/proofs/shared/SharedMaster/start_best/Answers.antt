use Rattle.shared_master.proofs.Waving.{plans_kept}
use Rattle.shared_master.proofs.shared.SharedMaster.start_best.Goals as goal

pub returns-clause-kept : goal.returns-clause-kept
returns-clause-kept g c =
    plans_kept _ _ _ c.start_best.result _ _ c.start_best.ensures.old c.start_best.ensures.answer

pub returns-clause-step : goal.returns-clause-step
returns-clause-step g c =
    record { old = _; new = _; of_job = c.start_best.ensures.old; step = c.start_best.ensures.answer }
