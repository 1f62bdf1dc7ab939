use Rattle.std.proofs.Common.{arith}
use Rattle.std.proofs.lemmas.Grind.{common_steps}
use Rattle.node_ids.proofs.Updating.{length-updated}
use Rattle.plan_tests.proofs.clusters.pairs.Goals as goal

pub loop-split-preserved : goal.loop-split-preserved
loop-split-preserved g c = grind (arith, common_steps, length-updated)
