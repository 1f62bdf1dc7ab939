use Rattle.shared_master.proofs.Stepping.{kept_backup}
use Rattle.shared_master.proofs.shared.SharedMaster.backup.Goals as goal

pub returns-clause-kept : goal.returns-clause-kept
returns-clause-kept g c = kept_backup c.backup.result c.backup.ensures.step c.backup.ensures.attempt
