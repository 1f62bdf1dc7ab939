use Rattle.shared_master.proofs.Stepping.{kept_as}
use Rattle.shared_master.proofs.shared.SharedMaster.sweep.Goals as goal

pub returns-clause-kept : goal.returns-clause-kept
returns-clause-kept g c = (_, kept_as c.sweep.ensures.step)
