use Rattle.shared_master.proofs.Stepping.{kept_reduce}
use Rattle.shared_master.proofs.shared.SharedMaster.reduce_start.Goals as goal

pub returns-clause-kept : goal.returns-clause-kept
returns-clause-kept g c = kept_reduce c.reduce_start.result c.reduce_start.ensures.step
