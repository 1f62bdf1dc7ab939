use Rattle.shared_master.proofs.Stepping.{kept_as}
use Rattle.shared_master.proofs.shared.SharedMaster.join.Goals as goal

pub returns-clause-kept : goal.returns-clause-kept
returns-clause-kept g c = kept_as c.join.ensures.step
