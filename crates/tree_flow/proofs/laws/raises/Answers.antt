use Rattle.tree_flow.proofs.Raised.{raises, search_ends, caps}
use Rattle.tree_flow.proofs.laws.raises.Goals as goal

pub returns : goal.returns
returns c = search (raises, search_ends, caps)
