use Rattle.std.proofs.Common.{arith}
use Rattle.std.proofs.lemmas.Grind.{common_steps}
use Rattle.master_tables.proofs.lines.worker_lines.Goals as goal

pub loop-worker-preserved : goal.loop-worker-preserved
loop-worker-preserved c = grind (arith, common_steps)

pub returns : goal.returns
returns c = grind (arith, common_steps)
