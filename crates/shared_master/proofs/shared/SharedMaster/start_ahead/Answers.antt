use Rattle.shared_master.proofs.Heads.{aheads_kept}
use Rattle.shared_master.proofs.shared.SharedMaster.start_ahead.Goals as goal

pub returns-clause-kept : goal.returns-clause-kept
returns-clause-kept g c =
    aheads_kept _ _ _ _ c.start_ahead.result _ _ c.start_ahead.ensures.old c.start_ahead.ensures.answer

pub returns-clause-step : goal.returns-clause-step
returns-clause-step g c =
    record { old = _; new = _; of_job = c.start_ahead.ensures.old; step = c.start_ahead.ensures.answer }
