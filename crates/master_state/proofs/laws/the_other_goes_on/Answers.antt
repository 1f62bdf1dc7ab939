use Rattle.master_state.proofs.Promises.{the_other_goes_on}
use Rattle.master_state.proofs.laws.the_other_goes_on.Goals as goal

pub returns : goal.returns
returns c = the_other_goes_on
