use Rattle.flow_network.proofs.Listed.{few_looks}
use Rattle.flow_network.proofs.laws.looks_are_few.Goals as goal

pub returns : goal.returns
returns c = few_looks
