use Rattle.std.proofs.Common.{arith}
use Rattle.std.proofs.lemmas.Bool.{eq-eqb, ne_eqb}
use Rattle.std.proofs.lemmas.Grind.{common_steps}
use Rattle.flow_network.proofs.HandOn.{inflow-more, outflow-more}
use Rattle.flow_network.proofs.network.flows_at.Goals as goal

pub loop-k-preserved : goal.loop-k-preserved
loop-k-preserved c = grind (arith, common_steps, inflow-more, outflow-more, eq-eqb, ne_eqb)
