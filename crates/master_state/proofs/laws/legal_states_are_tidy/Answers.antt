use Rattle.master_state.proofs.Histories.{tidy_legal}
use Rattle.master_state.proofs.laws.legal_states_are_tidy.Goals as goal

pub returns : goal.returns
returns c = tidy_legal
