use Rattle.master_state.proofs.Promises.{second_results_are_old}
use Rattle.master_state.proofs.laws.second_results_are_old.Goals as goal

pub returns : goal.returns
returns c = second_results_are_old
