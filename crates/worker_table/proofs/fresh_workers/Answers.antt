use Rattle.std.proofs.Common.{arith}
use Rattle.std.proofs.lemmas.Grind.{common_steps}
use Rattle.worker_table.proofs.fresh_workers.Goals as goal

pub loop-slots-preserved : goal.loop-slots-preserved
loop-slots-preserved c = grind (arith, common_steps)

pub returns-clause-each : goal.returns-clause-each
returns-clause-each c = grind (arith, common_steps)
