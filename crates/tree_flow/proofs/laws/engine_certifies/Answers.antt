use Rattle.tree_flow.proofs.Certified.{engine_certifies, engine_is_best}
use Rattle.tree_flow.proofs.laws.engine_certifies.Goals as goal

pub returns : goal.returns
returns c = search (engine_certifies, engine_is_best)
