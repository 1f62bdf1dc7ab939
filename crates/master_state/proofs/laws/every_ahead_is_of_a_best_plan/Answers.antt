use Rattle.master_state.proofs.AllHeads.{ahead_is_wave}
use Rattle.master_state.proofs.Promises.{every_ahead_is_of_a_best_plan}
use Rattle.master_state.proofs.laws.every_ahead_is_of_a_best_plan.Goals as goal

pub returns-clause-every : goal.returns-clause-every
returns-clause-every c = every_ahead_is_of_a_best_plan

pub returns-clause-wave : goal.returns-clause-wave
returns-clause-wave c = ahead_is_wave
