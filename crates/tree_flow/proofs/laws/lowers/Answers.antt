use Rattle.tree_flow.proofs.Raised.{lowers, search_back_ends}
use Rattle.tree_flow.proofs.laws.lowers.Goals as goal

pub returns : goal.returns
returns c = search (lowers, search_back_ends)
