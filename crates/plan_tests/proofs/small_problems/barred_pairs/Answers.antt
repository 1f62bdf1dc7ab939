use Rattle.std.proofs.Common.{arith}
use Rattle.std.proofs.lemmas.Grind.{common_steps}
use Rattle.node_ids.proofs.Updating.{length-updated}
use Rattle.plan_tests.proofs.small_problems.barred_pairs.Goals as goal

pub loop-w-preserved : goal.loop-w-preserved
loop-w-preserved g c = grind (arith, common_steps, length-updated)
