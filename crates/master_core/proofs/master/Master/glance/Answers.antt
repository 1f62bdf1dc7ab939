use Rattle.std.proofs.Common.{arith}
use Rattle.std.proofs.lemmas.Grind.{common_steps}
use Rattle.master_core.proofs.master.Master.glance.Goals as goal

pub open_splits-requires : goal.open_splits-requires
open_splits-requires c = grind (arith, common_steps)

pub returns : goal.returns
returns c = grind (arith, common_steps)
