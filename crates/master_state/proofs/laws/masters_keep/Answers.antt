use Rattle.master_state.proofs.Keeping.{aheads_keep, calls_keep, opening_is_kept, waves_keep}
use Rattle.master_state.proofs.laws.masters_keep.Goals as goal

pub returns-clause-opening : goal.returns-clause-opening
returns-clause-opening c = opening_is_kept

pub returns-clause-calls : goal.returns-clause-calls
returns-clause-calls c = calls_keep

pub returns-clause-waves : goal.returns-clause-waves
returns-clause-waves c = waves_keep

pub returns-clause-aheads : goal.returns-clause-aheads
returns-clause-aheads c = aheads_keep
